-- The intervals of an expression and of its parts hang on those alone of what it reads.
use Rattle.std.proofs.Common.{◌≡◌, ℕ, pos, Bool, true, false, not, ◌&&◌, List, [], ◌∷◌, ◌++◌, None, refl, ◌∙◌, ap}
use Rattle.std.specs.List.{list_all, AllByRecursion}
use Rattle.cif_system.specs.System.{Range, in_range}
use Rattle.cif_net_expr.specs.Tree.{MulOp, times, divided, modulo, NetExpr, net_expr, NetForm, n_truth, n_number, n_loc, n_var, n_input, n_alg, n_received, n_minus, n_plus, n_not, n_abs, n_min, n_max, n_sum, n_product, n_compare, n_and, n_or, n_implies, n_iff, n_if, NetExprs, no_net_exprs, net_exprs, NetTerms, no_net_terms, net_terms, NetFactors, no_net_factors, net_factors, NetBranches, no_net_branches, net_branches}
use Rattle.cif_net_model.specs.Net.{Net}
use Rattle.cif_net_model.specs.Kinds.{Kind, fits}
use Rattle.cif_net_model.specs.Reads.{Read, a_var, an_input, an_alg, a_place, the_received, alg_passes, names_in, form_names, term_names, factor_names, list_names, branch_names}
use Rattle.cif_net_model.specs.Interval.{neg_range, abs_range, min_ranges, max_ranges, add_ranges, mul_ranges, joined, Ranges, range_of, form_range, sum_range, product_range, cases_range, declared_ranges}
use Rattle.cif_net_model.specs.Parts.{add_term, add_factor, parts, form_parts, sum_parts, product_parts, list_parts, branch_parts, factor_divisors, own_divisors, part_divides, is_narrow}
use Rattle.cif_net_model.specs.Rules.{is_plain_expr}
use Rattle.cif_net_model.proofs.Passing.{and-left, and-right}
use Rattle.cif_net_model.proofs.PartLaws.{all-append}
use Rattle.cif_net_model.proofs.PlainLaws.{never}
use Rattle.cif_net_model.proofs.ValueLaws.{all-parts, ap-two}
use Rattle.cif_net_laws.proofs.Received.{Unreceived, unreceived, and-true}

module _ (g h : Ranges) where
  -- the ranges are alike at what is read
  abbrev pub Ranged : Read → Type 0
  Ranged (a_var k) = g.vars k ≡ h.vars k
  Ranged (an_input k) = g.inputs k ≡ h.inputs k
  Ranged (an_alg k) = g.algs k ≡ h.algs k
  Ranged (a_place a) = Unit {0}
  Ranged the_received = g.received ≡ h.received

  abbrev pub AllRanged : List Read → Type 0
  AllRanged xs = AllByRecursion Ranged xs

  mutual
    pub range-alike : (e : NetExpr) → AllRanged (names_in e) → range_of g e ≡ range_of h e
    range-alike (net_expr f at) n = form-alike f n

    form-alike : (f : NetForm) → AllRanged (form_names f) → form_range g f ≡ form_range h f
    form-alike (n_truth b) n = refl
    form-alike (n_number z) n = refl
    form-alike (n_loc a k) n = refl
    form-alike (n_var k) n = n.0
    form-alike (n_input k) n = n.0
    form-alike (n_alg k) n = n.0
    form-alike n_received n = n.0
    form-alike (n_minus e) n = ap neg_range (range-alike e n)
    form-alike (n_plus e) n = range-alike e n
    form-alike (n_not e) n = refl
    form-alike (n_abs e) n = ap abs_range (range-alike e n)
    form-alike (n_min a b) n = let q = all-parts Ranged (names_in a) (names_in b) n in ap-two min_ranges (range-alike a q.0) (range-alike b q.1)
    form-alike (n_max a b) n = let q = all-parts Ranged (names_in a) (names_in b) n in ap-two max_ranges (range-alike a q.0) (range-alike b q.1)
    form-alike (n_sum e es) n = let q = all-parts Ranged (names_in e) (term_names es) n in sum-alike es q.1 _ _ (range-alike e q.0)
    form-alike (n_product e es) n = let q = all-parts Ranged (names_in e) (factor_names es) n in product-alike es q.1 _ _ (range-alike e q.0)
    form-alike (n_compare a op b) n = refl
    form-alike (n_and es) n = refl
    form-alike (n_or es) n = refl
    form-alike (n_implies a b) n = refl
    form-alike (n_iff a b) n = refl
    form-alike (n_if bs e) n = let q = all-parts Ranged (branch_names bs) (names_in e) n in cases-alike bs q.0 _ _ (range-alike e q.1)

    sum-alike : (es : NetTerms) → AllRanged (term_names es) → (a b : Range) → a ≡ b → sum_range g a es ≡ sum_range h b es
    sum-alike no_net_terms n a b p = p
    sum-alike (net_terms m e es) n a b p = let q = all-parts Ranged (names_in e) (term_names es) n in sum-alike es q.1 _ _ (ap-two (add_ranges m) p (range-alike e q.0))

    product-alike : (es : NetFactors) → AllRanged (factor_names es) → (a b : Range) → a ≡ b → product_range g a es ≡ product_range h b es
    product-alike no_net_factors n a b p = p
    product-alike (net_factors op e es) n a b p = let q = all-parts Ranged (names_in e) (factor_names es) n in product-alike es q.1 _ _ (ap-two (mul_ranges op) p (range-alike e q.0))

    cases-alike : (bs : NetBranches) → AllRanged (branch_names bs) → (a b : Range) → a ≡ b → cases_range g a bs ≡ cases_range h b bs
    cases-alike no_net_branches n a b p = p
    cases-alike (net_branches c e bs) n a b p =
        let q = all-parts Ranged (names_in c) (names_in e ++ branch_names bs) n in
        let t = all-parts Ranged (names_in e) (branch_names bs) q.1 in
        ap-two joined (range-alike e t.0) (cases-alike bs t.1 a b p)

  -- ---- parts

  abbrev pub Alike : NetExpr → Type 0
  Alike e = range_of g e ≡ range_of h e

  abbrev pub PartAlike : NetExpr → Type 0
  PartAlike p = Alike p × AllByRecursion Alike (own_divisors p)

  divisors-alike : (es : NetFactors) → AllRanged (factor_names es) → AllByRecursion Alike (factor_divisors es)
  divisors-alike no_net_factors n = tt
  divisors-alike (net_factors times e es) n = divisors-alike es (all-parts Ranged (names_in e) (factor_names es) n).1
  divisors-alike (net_factors divided e es) n = (let q = all-parts Ranged (names_in e) (factor_names es) n in (range-alike e q.0, divisors-alike es q.1))
  divisors-alike (net_factors modulo e es) n = (let q = all-parts Ranged (names_in e) (factor_names es) n in (range-alike e q.0, divisors-alike es q.1))

  term-added : (es : NetTerms) (m : Bool) (e : NetExpr) → AllRanged (term_names es) → AllRanged (names_in e) → AllRanged (term_names (add_term es m e))
  term-added no_net_terms m e n k = all-append Ranged (names_in e) [] k tt
  term-added (net_terms o x xs) m e n k =
      let q = all-parts Ranged (names_in x) (term_names xs) n in
      all-append Ranged (names_in x) (term_names (add_term xs m e)) q.0 (term-added xs m e q.1 k)

  factor-added : (es : NetFactors) (op : MulOp) (e : NetExpr) → AllRanged (factor_names es) → AllRanged (names_in e) → AllRanged (factor_names (add_factor es op e))
  factor-added no_net_factors op e n k = all-append Ranged (names_in e) [] k tt
  factor-added (net_factors o x xs) op e n k =
      let q = all-parts Ranged (names_in x) (factor_names xs) n in
      all-append Ranged (names_in x) (factor_names (add_factor xs op e)) q.0 (factor-added xs op e q.1 k)

  pair-alike : (a b : NetExpr) → (AllRanged (names_in a) → AllByRecursion PartAlike (parts a)) → (AllRanged (names_in b) → AllByRecursion PartAlike (parts b)) → AllRanged (names_in a ++ names_in b) → AllByRecursion PartAlike (parts a ++ parts b)
  pair-alike a b f k n = let q = all-parts Ranged (names_in a) (names_in b) n in all-append PartAlike (parts a) (parts b) (f q.0) (k q.1)

  mutual
    pub parts-alike : (e : NetExpr) → AllRanged (names_in e) → AllByRecursion PartAlike (parts e)
    parts-alike (net_expr f at) n = form-parts-alike at f n

    form-parts-alike : (at : ℕ) (f : NetForm) → AllRanged (form_names f) → AllByRecursion PartAlike (form_parts at f)
    form-parts-alike at (n_truth b) n = ((refl, tt), tt)
    form-parts-alike at (n_number z) n = ((refl, tt), tt)
    form-parts-alike at (n_loc a k) n = ((refl, tt), tt)
    form-parts-alike at (n_var k) n = ((n.0, tt), tt)
    form-parts-alike at (n_input k) n = ((n.0, tt), tt)
    form-parts-alike at (n_alg k) n = ((n.0, tt), tt)
    form-parts-alike at n_received n = ((n.0, tt), tt)
    form-parts-alike at (n_minus e) n = ((range-alike (net_expr (n_minus e) at) n, tt), parts-alike e n)
    form-parts-alike at (n_plus e) n = ((range-alike (net_expr (n_plus e) at) n, tt), parts-alike e n)
    form-parts-alike at (n_not e) n = parts-alike e n
    form-parts-alike at (n_abs e) n = ((range-alike (net_expr (n_abs e) at) n, tt), parts-alike e n)
    form-parts-alike at (n_min a b) n = ((range-alike (net_expr (n_min a b) at) n, tt), pair-alike a b (parts-alike a) (parts-alike b) n)
    form-parts-alike at (n_max a b) n = ((range-alike (net_expr (n_max a b) at) n, tt), pair-alike a b (parts-alike a) (parts-alike b) n)
    form-parts-alike at (n_sum e es) n =
        let q = all-parts Ranged (names_in e) (term_names es) n in
        all-append PartAlike (parts e) (sum_parts at e no_net_terms es) (parts-alike e q.0) (sum-parts-alike at e no_net_terms es q.0 tt q.1)
    form-parts-alike at (n_product e es) n =
        let q = all-parts Ranged (names_in e) (factor_names es) n in
        all-append PartAlike (parts e) (product_parts at e no_net_factors es) (parts-alike e q.0) (product-parts-alike at e no_net_factors es q.0 tt q.1)
    form-parts-alike at (n_compare a op b) n = pair-alike a b (parts-alike a) (parts-alike b) n
    form-parts-alike at (n_and es) n = list-parts-alike es n
    form-parts-alike at (n_or es) n = list-parts-alike es n
    form-parts-alike at (n_implies a b) n = pair-alike a b (parts-alike a) (parts-alike b) n
    form-parts-alike at (n_iff a b) n = pair-alike a b (parts-alike a) (parts-alike b) n
    form-parts-alike at (n_if bs e) n =
        let q = all-parts Ranged (branch_names bs) (names_in e) n in
        ((range-alike (net_expr (n_if bs e) at) n, tt), all-append PartAlike (branch_parts bs) (parts e) (branch-parts-alike bs q.0) (parts-alike e q.1))

    list-parts-alike : (es : NetExprs) → AllRanged (list_names es) → AllByRecursion PartAlike (list_parts es)
    list-parts-alike no_net_exprs n = tt
    list-parts-alike (net_exprs e es) n = let q = all-parts Ranged (names_in e) (list_names es) n in all-append PartAlike (parts e) (list_parts es) (parts-alike e q.0) (list-parts-alike es q.1)

    branch-parts-alike : (bs : NetBranches) → AllRanged (branch_names bs) → AllByRecursion PartAlike (branch_parts bs)
    branch-parts-alike no_net_branches n = tt
    branch-parts-alike (net_branches c e bs) n =
        let q = all-parts Ranged (names_in c) (names_in e ++ branch_names bs) n in
        let t = all-parts Ranged (names_in e) (branch_names bs) q.1 in
        all-append PartAlike (parts c) (parts e ++ branch_parts bs) (parts-alike c q.0) (all-append PartAlike (parts e) (branch_parts bs) (parts-alike e t.0) (branch-parts-alike bs t.1))

    sum-parts-alike : (at : ℕ) (first : NetExpr) (before es : NetTerms) → AllRanged (names_in first) → AllRanged (term_names before) → AllRanged (term_names es) → AllByRecursion PartAlike (sum_parts at first before es)
    sum-parts-alike at first before no_net_terms f b n = tt
    sum-parts-alike at first before (net_terms m e es) f b n =
        let q = all-parts Ranged (names_in e) (term_names es) n in
        let more : AllRanged (term_names (add_term before m e)) = term-added before m e b q.0 in (
          (range-alike (net_expr (n_sum first (add_term before m e)) at) (all-append Ranged (names_in first) (term_names (add_term before m e)) f more), tt),
          all-append PartAlike (parts e) (sum_parts at first (add_term before m e) es) (parts-alike e q.0) (sum-parts-alike at first (add_term before m e) es f more q.1),
        )

    product-parts-alike : (at : ℕ) (first : NetExpr) (before es : NetFactors) → AllRanged (names_in first) → AllRanged (factor_names before) → AllRanged (factor_names es) → AllByRecursion PartAlike (product_parts at first before es)
    product-parts-alike at first before no_net_factors f b n = tt
    product-parts-alike at first before (net_factors op e es) f b n =
        let q = all-parts Ranged (names_in e) (factor_names es) n in
        let more : AllRanged (factor_names (add_factor before op e)) = factor-added before op e b q.0 in (
          (range-alike (net_expr (n_product first (add_factor before op e)) at) (all-append Ranged (names_in first) (factor_names (add_factor before op e)) f more), divisors-alike (add_factor before op e) more),
          all-append PartAlike (parts e) (product_parts at first (add_factor before op e) es) (parts-alike e q.0) (product-parts-alike at first (add_factor before op e) es f more q.1),
        )

  -- ---- tests over them

  divided-alike : (ds : List NetExpr) → AllByRecursion Alike ds → list_all (λ d. not (in_range (range_of g d) (pos 0))) ds ≡ list_all (λ d. not (in_range (range_of h d) (pos 0))) ds
  divided-alike [] a = refl
  divided-alike (d ∷ ds) a = ap-two (λ r b. not (in_range r (pos 0)) && b) a.0 (divided-alike ds a.1)

  pub divides-alike : (ps : List NetExpr) → AllByRecursion PartAlike ps → list_all (part_divides g) ps ≡ list_all (part_divides h) ps
  divides-alike [] a = refl
  divides-alike (p ∷ ps) a = ap-two (λ b c. b && c) (divided-alike (own_divisors p) a.0.1) (divides-alike ps a.1)

  pub narrow-alike : (ps : List NetExpr) → AllByRecursion PartAlike ps → list_all (λ p. is_narrow (range_of g p)) ps ≡ list_all (λ p. is_narrow (range_of h p)) ps
  narrow-alike [] a = refl
  narrow-alike (p ∷ ps) a = ap-two (λ r b. is_narrow r && b) a.0.0 (narrow-alike ps a.1)

-- where nothing received and no algebraic variable is named, the range of what is received does not matter
same-ranges : (n : Net) (a b : Range) (xs : List Read) → list_all (alg_passes (λ k. false)) xs ≡ true → AllByRecursion Unreceived xs → AllRanged (declared_ranges n a) (declared_ranges n b) xs
same-ranges n a b [] h u = tt
same-ranges n a b (a_var k ∷ xs) h u = (refl, same-ranges n a b xs h u.1)
same-ranges n a b (an_input k ∷ xs) h u = (refl, same-ranges n a b xs h u.1)
same-ranges n a b (an_alg k ∷ xs) h u = never h
same-ranges n a b (a_place k ∷ xs) h u = (tt, same-ranges n a b xs h u.1)
same-ranges n a b (the_received ∷ xs) h u = absurd u.0

pub plain-any : (n : Net) (k : Kind) (e : NetExpr) (a b : Range) → fits n None k e ≡ true → is_plain_expr n (record { value = e; received = a }) ≡ true → is_plain_expr n (record { value = e; received = b }) ≡ true
plain-any n k e a b f h =
    let names = and-left _ _ (and-left _ _ h) in
    let all = same-ranges n b a (names_in e) names (unreceived n k e f) in
    let ps = parts-alike (declared_ranges n b) (declared_ranges n a) e all in
    and-true (and-true names (divides-alike (declared_ranges n b) (declared_ranges n a) (parts e) ps ∙ and-right _ _ (and-left _ _ h)))
    (narrow-alike (declared_ranges n b) (declared_ranges n a) (parts e) ps ∙ and-right _ _ h)
