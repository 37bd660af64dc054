-- Intervals of expressions that don't name the received value, and that of an expression whose parts are in 64 bits.
use Rattle.std.proofs.Common.{◌≡◌, ℕ, Bool, true, List, [], ◌∷◌, ◌++◌, refl, ◌∙◌, ap, arith}
use Rattle.std.specs.List.{list_all}
use Rattle.std.proofs.lemmas.Int.{ints}
use Rattle.cif_system.specs.System.{Range}
use Rattle.cif_net_expr.specs.Tree.{MulOp, NetExpr, net_expr, NetForm, n_truth, n_number, n_loc, n_var, n_input, n_alg, n_received, n_minus, n_plus, n_not, n_abs, n_min, n_max, n_sum, n_product, n_compare, n_and, n_or, n_implies, n_iff, n_if, NetTerms, no_net_terms, net_terms, NetFactors, no_net_factors, net_factors, NetBranches, no_net_branches, net_branches}
use Rattle.cif_net_model.specs.Interval.{joined, join_all, neg_range, add_ranges, mul_ranges, abs_range, min_ranges, max_ranges, Ranges, range_of, form_range, sum_range, product_range, cases_range}
use Rattle.cif_net_model.specs.Parts.{add_term, add_factor, parts, form_parts, sum_parts, product_parts, is_narrow}
use Rattle.cif_net_model.specs.Reads.{names_in, form_names, term_names, factor_names, branch_names}
use Rattle.cif_net_model.proofs.Passing.{and-left, and-right, both-pass}
use Rattle.cif_net_model.proofs.PlainLaws.{never}
use Rattle.cif_net_model.proofs.ValueLaws.{ap-two}
use Rattle.cif_net_laws.proofs.Naming.{not_received}

-- ---- without the received value

module _ (g : Ranges) (r : Range) where
  abbrev h : Ranges
  h = record g { received = r }

  mutual
    pub quiet-range : (e : NetExpr) → list_all not_received (names_in e) ≡ true → range_of g e ≡ range_of h e
    quiet-range (net_expr f at) n = quiet-form f n

    quiet-form : (f : NetForm) → list_all not_received (form_names f) ≡ true → form_range g f ≡ form_range h f
    quiet-form (n_truth b) n = refl
    quiet-form (n_number z) n = refl
    quiet-form (n_loc a k) n = refl
    quiet-form (n_var k) n = refl
    quiet-form (n_input k) n = refl
    quiet-form (n_alg k) n = refl
    quiet-form n_received n = never n
    quiet-form (n_minus e) n = ap neg_range (quiet-range e n)
    quiet-form (n_plus e) n = quiet-range e n
    quiet-form (n_not e) n = refl
    quiet-form (n_abs e) n = ap abs_range (quiet-range e n)
    quiet-form (n_min a b) n = let ns = both-pass not_received (names_in a) (names_in b) n in ap-two min_ranges (quiet-range a ns.0) (quiet-range b ns.1)
    quiet-form (n_max a b) n = let ns = both-pass not_received (names_in a) (names_in b) n in ap-two max_ranges (quiet-range a ns.0) (quiet-range b ns.1)
    quiet-form (n_sum e es) n = let ns = both-pass not_received (names_in e) (term_names es) n in quiet-sum es ns.1 _ _ (quiet-range e ns.0)
    quiet-form (n_product e es) n = let ns = both-pass not_received (names_in e) (factor_names es) n in quiet-product es ns.1 _ _ (quiet-range e ns.0)
    quiet-form (n_compare a op b) n = refl
    quiet-form (n_and es) n = refl
    quiet-form (n_or es) n = refl
    quiet-form (n_implies a b) n = refl
    quiet-form (n_iff a b) n = refl
    quiet-form (n_if bs e) n = let ns = both-pass not_received (branch_names bs) (names_in e) n in quiet-cases bs ns.0 _ _ (quiet-range e ns.1)

    quiet-sum : (es : NetTerms) → list_all not_received (term_names es) ≡ true → (a b : Range) → a ≡ b → sum_range g a es ≡ sum_range h b es
    quiet-sum no_net_terms n a b p = p
    quiet-sum (net_terms m e es) n a b p = let ns = both-pass not_received (names_in e) (term_names es) n in quiet-sum es ns.1 _ _ (ap-two (add_ranges m) p (quiet-range e ns.0))

    quiet-product : (es : NetFactors) → list_all not_received (factor_names es) ≡ true → (a b : Range) → a ≡ b → product_range g a es ≡ product_range h b es
    quiet-product no_net_factors n a b p = p
    quiet-product (net_factors op e es) n a b p = let ns = both-pass not_received (names_in e) (factor_names es) n in quiet-product es ns.1 _ _ (ap-two (mul_ranges op) p (quiet-range e ns.0))

    quiet-cases : (bs : NetBranches) → list_all not_received (branch_names bs) ≡ true → (a b : Range) → a ≡ b → cases_range g a bs ≡ cases_range h b bs
    quiet-cases no_net_branches n a b p = p
    quiet-cases (net_branches c e bs) n a b p =
        let ns = both-pass not_received (names_in c) (names_in e ++ branch_names bs) n in
        let ms = both-pass not_received (names_in e) (branch_names bs) ns.1 in
        ap-two joined (quiet-range e ms.0) (quiet-cases bs ms.1 a b p)

-- ---- the whole is in 64 bits where its parts are

joined-narrow : (a b : Range) → is_narrow a ≡ true → is_narrow b ≡ true → is_narrow (joined a b) ≡ true
joined-narrow a b h k = grind (arith, ints)

pub joins-narrow : (rs : List Range) → list_all is_narrow rs ≡ true → is_narrow (join_all rs) ≡ true
joins-narrow [] h = refl
joins-narrow (a ∷ []) h = and-left _ _ h
joins-narrow (a ∷ b ∷ rest) h = joined-narrow a (join_all (b ∷ rest)) (and-left _ _ h) (joins-narrow (b ∷ rest) (and-right _ _ h))

sum_range-more : (g : Ranges) (a : Range) (es : NetTerms) (m : Bool) (e : NetExpr) → add_ranges m (sum_range g a es) (range_of g e) ≡ sum_range g a (add_term es m e)
sum_range-more g a no_net_terms m e = refl
sum_range-more g a (net_terms o x xs) m e = sum_range-more g (add_ranges o a (range_of g x)) xs m e

product_range-more : (g : Ranges) (a : Range) (es : NetFactors) (op : MulOp) (e : NetExpr) → mul_ranges op (product_range g a es) (range_of g e) ≡ product_range g a (add_factor es op e)
product_range-more g a no_net_factors op e = refl
product_range-more g a (net_factors o x xs) op e = product_range-more g (mul_ranges o a (range_of g x)) xs op e

module _ (g : Ranges) where
  abbrev narrow : NetExpr → Bool
  narrow p = is_narrow (range_of g p)

  sum-narrow : (at : ℕ) (first : NetExpr) (before es : NetTerms) → list_all narrow (sum_parts at first before es) ≡ true → (a : Range) → a ≡ sum_range g (range_of g first) before → is_narrow a ≡ true → is_narrow (sum_range g a es) ≡ true
  sum-narrow at first before no_net_terms h a e n = n
  sum-narrow at first before (net_terms m x es) h a e n =
      let same : add_ranges m a (range_of g x) ≡ sum_range g (range_of g first) (add_term before m x) = ap (λ b. add_ranges m b (range_of g x)) e ∙ sum_range-more g (range_of g first) before m x in
      sum-narrow at first (add_term before m x) es (both-pass narrow (parts x) (sum_parts at first (add_term before m x) es) (and-right _ _ h)).1 (add_ranges m a (range_of g x)) same (ap is_narrow same ∙ and-left _ _ h)

  product-narrow : (at : ℕ) (first : NetExpr) (before es : NetFactors) → list_all narrow (product_parts at first before es) ≡ true → (a : Range) → a ≡ product_range g (range_of g first) before → is_narrow a ≡ true → is_narrow (product_range g a es) ≡ true
  product-narrow at first before no_net_factors h a e n = n
  product-narrow at first before (net_factors op x es) h a e n =
      let same : mul_ranges op a (range_of g x) ≡ product_range g (range_of g first) (add_factor before op x) = ap (λ b. mul_ranges op b (range_of g x)) e ∙ product_range-more g (range_of g first) before op x in
      product-narrow at first (add_factor before op x) es (both-pass narrow (parts x) (product_parts at first (add_factor before op x) es) (and-right _ _ h)).1 (mul_ranges op a (range_of g x)) same (ap is_narrow same ∙ and-left _ _ h)

  mutual
    pub whole-narrow : (e : NetExpr) → list_all narrow (parts e) ≡ true → is_narrow (range_of g e) ≡ true
    whole-narrow (net_expr f at) h = form-narrow at f h

    form-narrow : (at : ℕ) (f : NetForm) → list_all narrow (form_parts at f) ≡ true → is_narrow (form_range g f) ≡ true
    form-narrow at (n_truth b) h = and-left _ _ h
    form-narrow at (n_number z) h = and-left _ _ h
    form-narrow at (n_loc a k) h = and-left _ _ h
    form-narrow at (n_var k) h = and-left _ _ h
    form-narrow at (n_input k) h = and-left _ _ h
    form-narrow at (n_alg k) h = and-left _ _ h
    form-narrow at n_received h = and-left _ _ h
    form-narrow at (n_minus e) h = and-left _ _ h
    form-narrow at (n_plus e) h = and-left _ _ h
    form-narrow at (n_not e) h = refl
    form-narrow at (n_abs e) h = and-left _ _ h
    form-narrow at (n_min a b) h = and-left _ _ h
    form-narrow at (n_max a b) h = and-left _ _ h
    form-narrow at (n_sum e es) h =
        let hs = both-pass narrow (parts e) (sum_parts at e no_net_terms es) h in
        sum-narrow at e no_net_terms es hs.1 (range_of g e) refl (whole-narrow e hs.0)
    form-narrow at (n_product e es) h =
        let hs = both-pass narrow (parts e) (product_parts at e no_net_factors es) h in
        product-narrow at e no_net_factors es hs.1 (range_of g e) refl (whole-narrow e hs.0)
    form-narrow at (n_compare a op b) h = refl
    form-narrow at (n_and es) h = refl
    form-narrow at (n_or es) h = refl
    form-narrow at (n_implies a b) h = refl
    form-narrow at (n_iff a b) h = refl
    form-narrow at (n_if bs e) h = and-left _ _ h
