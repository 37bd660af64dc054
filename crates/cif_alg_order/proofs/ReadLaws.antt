-- The interval of an expression hangs on the ranges of what it names, and its parts name no more than it does.
use Rattle.std.proofs.Common.{◌≡◌, ℕ, Bool, List, [], ◌∷◌, ◌++◌, map, inl, inr, refl, ap, subst}
use Rattle.std.specs.Prelude.{flat_map}
use Rattle.cif_system.specs.System.{Range}
use Rattle.cif_system.specs.Words.{Member}
use Rattle.cif_system.proofs.Distinct.{member-append, member-flat_map}
use Rattle.cif_system.proofs.Picks.{append-left, append-right}
use Rattle.cif_net_expr.specs.Tree.{MulOp, times, divided, modulo, NetExpr, net_expr, NetForm, n_truth, n_number, n_loc, n_var, n_input, n_alg, n_received, n_minus, n_plus, n_not, n_abs, n_min, n_max, n_sum, n_product, n_compare, n_and, n_or, n_implies, n_iff, n_if, NetExprs, no_net_exprs, net_exprs, NetTerms, no_net_terms, net_terms, NetFactors, no_net_factors, net_factors, NetBranches, no_net_branches, net_branches}
use Rattle.cif_net_model.specs.Net.{AlgValue, one_value, by_loc, NetAlg}
use Rattle.cif_net_model.specs.Exprs.{alg_exprs}
use Rattle.cif_net_model.specs.Interval.{joined, neg_range, add_ranges, mul_ranges, abs_range, min_ranges, max_ranges, join_all, Ranges, range_of, form_range, sum_range, product_range, cases_range, alg_range}
use Rattle.cif_net_model.specs.Parts.{add_term, add_factor, parts, form_parts, list_parts, branch_parts, sum_parts, product_parts, factor_divisors, own_divisors, divisors}
use Rattle.cif_net_model.specs.Reads.{Read, a_var, an_input, an_alg, a_place, the_received, names_in, form_names, term_names, factor_names, list_names, branch_names}
use Rattle.cif_net_model.proofs.ValueLaws.{ap-two}

-- ---- ranges that are the same of what is named

abbrev pub same_read : Ranges → Ranges → Read → Type 0
same_read g h (a_var k) = g.vars k ≡ h.vars k
same_read g h (an_input k) = g.inputs k ≡ h.inputs k
same_read g h (an_alg k) = g.algs k ≡ h.algs k
same_read g h (a_place k) = Unit {0}
same_read g h the_received = g.received ≡ h.received

abbrev pub value_range : Ranges → AlgValue → Range
value_range g (one_value e) = range_of g e
value_range g (by_loc k es) = join_all (map (range_of g) es)

module _ (g h : Ranges) where
  abbrev Same : List Read → Type 0
  Same rs = (r : Read) → Member r rs → same_read g h r

  left : (rs qs : List Read) → Same (rs ++ qs) → Same rs
  left rs qs s r m = s r (append-left r rs qs m)

  right : (rs qs : List Read) → Same (rs ++ qs) → Same qs
  right rs qs s r m = s r (append-right r rs qs m)

  mutual
    pub range-same : (e : NetExpr) → Same (names_in e) → range_of g e ≡ range_of h e
    range-same (net_expr f at) s = form-same f s

    form-same : (f : NetForm) → Same (form_names f) → form_range g f ≡ form_range h f
    form-same (n_truth b) s = refl
    form-same (n_number z) s = refl
    form-same (n_loc a k) s = refl
    form-same (n_var k) s = s (a_var k) (inl refl)
    form-same (n_input k) s = s (an_input k) (inl refl)
    form-same (n_alg k) s = s (an_alg k) (inl refl)
    form-same n_received s = s the_received (inl refl)
    form-same (n_minus e) s = ap neg_range (range-same e s)
    form-same (n_plus e) s = range-same e s
    form-same (n_not e) s = refl
    form-same (n_abs e) s = ap abs_range (range-same e s)
    form-same (n_min a b) s = ap-two min_ranges (range-same a (left (names_in a) (names_in b) s)) (range-same b (right (names_in a) (names_in b) s))
    form-same (n_max a b) s = ap-two max_ranges (range-same a (left (names_in a) (names_in b) s)) (range-same b (right (names_in a) (names_in b) s))
    form-same (n_sum e es) s = sum-same es _ _ (range-same e (left (names_in e) (term_names es) s)) (right (names_in e) (term_names es) s)
    form-same (n_product e es) s = product-same es _ _ (range-same e (left (names_in e) (factor_names es) s)) (right (names_in e) (factor_names es) s)
    form-same (n_compare a op b) s = refl
    form-same (n_and es) s = refl
    form-same (n_or es) s = refl
    form-same (n_implies a b) s = refl
    form-same (n_iff a b) s = refl
    form-same (n_if bs e) s = cases-same bs _ _ (range-same e (right (branch_names bs) (names_in e) s)) (left (branch_names bs) (names_in e) s)

    sum-same : (es : NetTerms) (a b : Range) → a ≡ b → Same (term_names es) → sum_range g a es ≡ sum_range h b es
    sum-same no_net_terms a b p s = p
    sum-same (net_terms m e es) a b p s = sum-same es _ _ (ap-two (add_ranges m) p (range-same e (left (names_in e) (term_names es) s))) (right (names_in e) (term_names es) s)

    product-same : (es : NetFactors) (a b : Range) → a ≡ b → Same (factor_names es) → product_range g a es ≡ product_range h b es
    product-same no_net_factors a b p s = p
    product-same (net_factors op e es) a b p s = product-same es _ _ (ap-two (mul_ranges op) p (range-same e (left (names_in e) (factor_names es) s))) (right (names_in e) (factor_names es) s)

    cases-same : (bs : NetBranches) (a b : Range) → a ≡ b → Same (branch_names bs) → cases_range g a bs ≡ cases_range h b bs
    cases-same no_net_branches a b p s = p
    cases-same (net_branches c e bs) a b p s =
        let t : Same (names_in e ++ branch_names bs) = right (names_in c) (names_in e ++ branch_names bs) s in
        ap-two joined (range-same e (left (names_in e) (branch_names bs) t)) (cases-same bs a b p (right (names_in e) (branch_names bs) t))

  ranges-same : (es : List NetExpr) → Same (flat_map names_in es) → map (range_of g) es ≡ map (range_of h) es
  ranges-same [] s = refl
  ranges-same (e ∷ es) s =
      let p : range_of g e ≡ range_of h e = range-same e (left (names_in e) (flat_map names_in es) s) in
      let q : map (range_of g) es ≡ map (range_of h) es = ranges-same es (right (names_in e) (flat_map names_in es) s) in
      λ i. p i ∷ q i

  value-same : (v : AlgValue) → Same (flat_map names_in (elim v [ one_value e ↦ e ∷ [] | by_loc k es ↦ es ])) → value_range g v ≡ value_range h v
  value-same (one_value e) s = range-same e (left (names_in e) [] s)
  value-same (by_loc k es) s = ap join_all (ranges-same es s)

  pub alg-same : (a : NetAlg) → Same (flat_map names_in (alg_exprs a)) → alg_range (range_of g) a ≡ alg_range (range_of h) a
  alg-same a s = value-same a.value s

-- ---- what parts name

abbrev Within : List Read → List Read → Type 0
Within qs rs = (r : Read) → Member r qs → Member r rs

-- each of the parts names what is listed alone
abbrev pub AllName : List NetExpr → List Read → Type 0
AllName ps rs = (p : NetExpr) → Member p ps → (r : Read) → Member r (names_in p) → Member r rs

none : (rs : List Read) → AllName [] rs
none rs p m = absurd m

here : (q : NetExpr) (ps : List NetExpr) (rs : List Read) → Within (names_in q) rs → AllName ps rs → AllName (q ∷ ps) rs
here q ps rs w a p m r k = elim m [ inl e ↦ w r (subst (λ x. Member r (names_in x)) e k) | inr i ↦ a p i r k ]

only : (q : NetExpr) → AllName (q ∷ []) (names_in q)
only q = here q [] (names_in q) (λ r m. m) (none (names_in q))

join : (ps qs : List NetExpr) (rs : List Read) → AllName ps rs → AllName qs rs → AllName (ps ++ qs) rs
join ps qs rs a b p m r k = elim (member-append p ps qs m) [ inl i ↦ a p i r k | inr i ↦ b p i r k ]

in-left : (ps : List NetExpr) (rs qs : List Read) → AllName ps rs → AllName ps (rs ++ qs)
in-left ps rs qs a p m r k = append-left r rs qs (a p m r k)

in-right : (ps : List NetExpr) (rs qs : List Read) → AllName ps qs → AllName ps (rs ++ qs)
in-right ps rs qs a p m r k = append-right r rs qs (a p m r k)

pair : (ps qs : List NetExpr) (rs ss : List Read) → AllName ps rs → AllName qs ss → AllName (ps ++ qs) (rs ++ ss)
pair ps qs rs ss a b = join ps qs (rs ++ ss) (in-left ps rs ss a) (in-right qs rs ss b)

term-added : (ts : NetTerms) (m : Bool) (e : NetExpr) (rs : List Read) → Within (term_names ts) rs → Within (names_in e) rs → Within (term_names (add_term ts m e)) rs
term-added no_net_terms m e rs w v r k = elim (member-append r (names_in e) [] k) [ inl i ↦ v r i | inr i ↦ absurd i ]
term-added (net_terms n x xs) m e rs w v r k =
    elim (member-append r (names_in x) (term_names (add_term xs m e)) k) [
      | inl i ↦ w r (append-left r (names_in x) (term_names xs) i)
      | inr i ↦ term-added xs m e rs (λ q j. w q (append-right q (names_in x) (term_names xs) j)) v r i
    ]

factor-added : (ts : NetFactors) (op : MulOp) (e : NetExpr) (rs : List Read) → Within (factor_names ts) rs → Within (names_in e) rs → Within (factor_names (add_factor ts op e)) rs
factor-added no_net_factors op e rs w v r k = elim (member-append r (names_in e) [] k) [ inl i ↦ v r i | inr i ↦ absurd i ]
factor-added (net_factors n x xs) op e rs w v r k =
    elim (member-append r (names_in x) (factor_names (add_factor xs op e)) k) [
      | inl i ↦ w r (append-left r (names_in x) (factor_names xs) i)
      | inr i ↦ factor-added xs op e rs (λ q j. w q (append-right q (names_in x) (factor_names xs) j)) v r i
    ]

both-within : (xs ys rs : List Read) → Within xs rs → Within ys rs → Within (xs ++ ys) rs
both-within xs ys rs w v r k = elim (member-append r xs ys k) [ inl i ↦ w r i | inr i ↦ v r i ]

mutual
  pub parts-name : (e : NetExpr) → AllName (parts e) (names_in e)
  parts-name (net_expr f at) = form-names at f

  form-names : (at : ℕ) (f : NetForm) → AllName (form_parts at f) (form_names f)
  form-names at (n_truth b) = only (net_expr (n_truth b) at)
  form-names at (n_number z) = only (net_expr (n_number z) at)
  form-names at (n_loc a k) = only (net_expr (n_loc a k) at)
  form-names at (n_var k) = only (net_expr (n_var k) at)
  form-names at (n_input k) = only (net_expr (n_input k) at)
  form-names at (n_alg k) = only (net_expr (n_alg k) at)
  form-names at n_received = only (net_expr n_received at)
  form-names at (n_minus e) = here (net_expr (n_minus e) at) (parts e) (names_in e) (λ r m. m) (parts-name e)
  form-names at (n_plus e) = here (net_expr (n_plus e) at) (parts e) (names_in e) (λ r m. m) (parts-name e)
  form-names at (n_not e) = parts-name e
  form-names at (n_abs e) = here (net_expr (n_abs e) at) (parts e) (names_in e) (λ r m. m) (parts-name e)
  form-names at (n_min a b) = here (net_expr (n_min a b) at) (parts a ++ parts b) (names_in a ++ names_in b) (λ r m. m) (pair (parts a) (parts b) (names_in a) (names_in b) (parts-name a) (parts-name b))
  form-names at (n_max a b) = here (net_expr (n_max a b) at) (parts a ++ parts b) (names_in a ++ names_in b) (λ r m. m) (pair (parts a) (parts b) (names_in a) (names_in b) (parts-name a) (parts-name b))
  form-names at (n_sum e es) =
      join (parts e) (sum_parts at e no_net_terms es) (names_in e ++ term_names es) (in-left (parts e) (names_in e) (term_names es) (parts-name e))
      (sum-names at e no_net_terms es (names_in e ++ term_names es) (λ r m. append-left r (names_in e) (term_names es) m) (λ r m. absurd m) (λ r m. append-right r (names_in e) (term_names es) m))
  form-names at (n_product e es) =
      join (parts e) (product_parts at e no_net_factors es) (names_in e ++ factor_names es) (in-left (parts e) (names_in e) (factor_names es) (parts-name e))
      (product-names at e no_net_factors es (names_in e ++ factor_names es) (λ r m. append-left r (names_in e) (factor_names es) m) (λ r m. absurd m) (λ r m. append-right r (names_in e) (factor_names es) m))
  form-names at (n_compare a op b) = pair (parts a) (parts b) (names_in a) (names_in b) (parts-name a) (parts-name b)
  form-names at (n_and es) = list-names es
  form-names at (n_or es) = list-names es
  form-names at (n_implies a b) = pair (parts a) (parts b) (names_in a) (names_in b) (parts-name a) (parts-name b)
  form-names at (n_iff a b) = pair (parts a) (parts b) (names_in a) (names_in b) (parts-name a) (parts-name b)
  form-names at (n_if bs e) =
      here (net_expr (n_if bs e) at) (branch_parts bs ++ parts e) (branch_names bs ++ names_in e) (λ r m. m) (pair (branch_parts bs) (parts e) (branch_names bs) (names_in e) (branches-name bs) (parts-name e))

  list-names : (es : NetExprs) → AllName (list_parts es) (list_names es)
  list-names no_net_exprs = none []
  list-names (net_exprs e es) = pair (parts e) (list_parts es) (names_in e) (list_names es) (parts-name e) (list-names es)

  branches-name : (bs : NetBranches) → AllName (branch_parts bs) (branch_names bs)
  branches-name no_net_branches = none []
  branches-name (net_branches c e bs) =
      pair (parts c) (parts e ++ branch_parts bs) (names_in c) (names_in e ++ branch_names bs) (parts-name c)
      (pair (parts e) (branch_parts bs) (names_in e) (branch_names bs) (parts-name e) (branches-name bs))

  sum-names : (at : ℕ) (first : NetExpr) (before es : NetTerms) (rs : List Read) → Within (names_in first) rs → Within (term_names before) rs → Within (term_names es) rs → AllName (sum_parts at first before es) rs
  sum-names at first before no_net_terms rs a b c = none rs
  sum-names at first before (net_terms m e es) rs a b c =
      let v : Within (names_in e) rs = λ r i. c r (append-left r (names_in e) (term_names es) i) in
      let w : Within (term_names (add_term before m e)) rs = term-added before m e rs b v in
      here (net_expr (n_sum first (add_term before m e)) at) (parts e ++ sum_parts at first (add_term before m e) es) rs (both-within (names_in first) (term_names (add_term before m e)) rs a w)
      (join (parts e) (sum_parts at first (add_term before m e) es) rs (λ p i r k. v r (parts-name e p i r k))
      (sum-names at first (add_term before m e) es rs a w (λ r i. c r (append-right r (names_in e) (term_names es) i))))

  product-names : (at : ℕ) (first : NetExpr) (before es : NetFactors) (rs : List Read) → Within (names_in first) rs → Within (factor_names before) rs → Within (factor_names es) rs → AllName (product_parts at first before es) rs
  product-names at first before no_net_factors rs a b c = none rs
  product-names at first before (net_factors op e es) rs a b c =
      let v : Within (names_in e) rs = λ r i. c r (append-left r (names_in e) (factor_names es) i) in
      let w : Within (factor_names (add_factor before op e)) rs = factor-added before op e rs b v in
      here (net_expr (n_product first (add_factor before op e)) at) (parts e ++ product_parts at first (add_factor before op e) es) rs (both-within (names_in first) (factor_names (add_factor before op e)) rs a w)
      (join (parts e) (product_parts at first (add_factor before op e) es) rs (λ p i r k. v r (parts-name e p i r k))
      (product-names at first (add_factor before op e) es rs a w (λ r i. c r (append-right r (names_in e) (factor_names es) i))))

-- ---- divisors

divisor-names : (e : NetExpr) (es : NetFactors) → AllName (factor_divisors es) (factor_names es) → AllName (e ∷ factor_divisors es) (names_in e ++ factor_names es)
divisor-names e es a = here e (factor_divisors es) (names_in e ++ factor_names es) (λ r m. append-left r (names_in e) (factor_names es) m) (in-right (factor_divisors es) (names_in e) (factor_names es) a)

factors-name : (es : NetFactors) → AllName (factor_divisors es) (factor_names es)
factors-name no_net_factors = none []
factors-name (net_factors times e es) = in-right (factor_divisors es) (names_in e) (factor_names es) (factors-name es)
factors-name (net_factors divided e es) = divisor-names e es (factors-name es)
factors-name (net_factors modulo e es) = divisor-names e es (factors-name es)

own-name : (f : NetForm) (at : ℕ) → AllName (own_divisors (net_expr f at)) (form_names f)
own-name (n_truth b) at = none (form_names (n_truth b))
own-name (n_number z) at = none (form_names (n_number z))
own-name (n_loc a k) at = none (form_names (n_loc a k))
own-name (n_var k) at = none (form_names (n_var k))
own-name (n_input k) at = none (form_names (n_input k))
own-name (n_alg k) at = none (form_names (n_alg k))
own-name n_received at = none (form_names n_received)
own-name (n_minus e) at = none (form_names (n_minus e))
own-name (n_plus e) at = none (form_names (n_plus e))
own-name (n_not e) at = none (form_names (n_not e))
own-name (n_abs e) at = none (form_names (n_abs e))
own-name (n_min a b) at = none (form_names (n_min a b))
own-name (n_max a b) at = none (form_names (n_max a b))
own-name (n_sum e es) at = none (form_names (n_sum e es))
own-name (n_product e es) at = in-right (factor_divisors es) (names_in e) (factor_names es) (factors-name es)
own-name (n_compare a op b) at = none (form_names (n_compare a op b))
own-name (n_and es) at = none (form_names (n_and es))
own-name (n_or es) at = none (form_names (n_or es))
own-name (n_implies a b) at = none (form_names (n_implies a b))
own-name (n_iff a b) at = none (form_names (n_iff a b))
own-name (n_if bs e) at = none (form_names (n_if bs e))

own-divisors-name : (e : NetExpr) → AllName (own_divisors e) (names_in e)
own-divisors-name (net_expr f at) = own-name f at

-- a divisor anywhere in an expression names no more than the expression
pub divisors-name : (e : NetExpr) → AllName (divisors e) (names_in e)
divisors-name e d m r k =
    let f = member-flat_map own_divisors d (parts e) m in
    parts-name e f.0 f.1 r (own-divisors-name f.0 d f.2 r k)
