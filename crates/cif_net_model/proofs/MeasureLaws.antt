-- The interval and the measure of an expression in which algebraic variables are replaced.
use Rattle.std.proofs.Common.{◌≡◌, ℕ, suc, ◌+◌, max, List, [], ◌∷◌, map, length, refl, ap, arith}
use Rattle.cif_system.specs.System.{Range}
use Rattle.cif_net_expr.specs.Tree.{NetExpr, net_expr, NetForm, n_truth, n_number, n_loc, n_var, n_input, n_alg, n_received, n_minus, n_plus, n_not, n_abs, n_min, n_max, n_sum, n_product, n_compare, n_and, n_or, n_implies, n_iff, n_if, NetExprs, no_net_exprs, net_exprs, NetTerms, no_net_terms, net_terms, NetFactors, no_net_factors, net_factors, NetBranches, no_net_branches, net_branches}
use Rattle.cif_net_model.specs.Interval.{join_all, joined, neg_range, add_ranges, mul_ranges, abs_range, min_ranges, max_ranges, Ranges, with_algs, range_of, form_range, sum_range, product_range, cases_range}
use Rattle.cif_net_model.specs.Counts.{Measure, all_beside, by_location, beside, above, measure_by, form_measure, terms_measure, factors_measure, list_measure, branches_measure}
use Rattle.cif_net_model.specs.Inline.{replaced, form_replaced, terms_replaced, factors_replaced, list_replaced, branches_replaced, place_branches, last_of, by_places}
use Rattle.cif_net_model.specs.Exprs.{placed}
use Rattle.cif_net_model.proofs.ValueLaws.{ap-two}

-- ---- the interval

placed-range : (g : Ranges) (at : ℕ) (e : NetExpr) → range_of g (placed at e) ≡ range_of g e
placed-range g at (net_expr f k) = refl

module _ (by : ℕ → NetExpr) (g : Ranges) where
  -- with the intervals of what replaces them
  abbrev pub inner : Ranges
  inner = with_algs g (λ k. range_of g (by k))

  mutual
    pub replaced-range : (e : NetExpr) → range_of g (replaced by e) ≡ range_of inner e
    replaced-range (net_expr f at) = replaced-form at f

    replaced-form : (at : ℕ) (f : NetForm) → range_of g (form_replaced by at f) ≡ form_range inner f
    replaced-form at (n_truth b) = refl
    replaced-form at (n_number z) = refl
    replaced-form at (n_loc a k) = refl
    replaced-form at (n_var k) = refl
    replaced-form at (n_input k) = refl
    replaced-form at (n_alg k) = placed-range g at (by k)
    replaced-form at n_received = refl
    replaced-form at (n_minus e) = ap neg_range (replaced-range e)
    replaced-form at (n_plus e) = replaced-range e
    replaced-form at (n_not e) = refl
    replaced-form at (n_abs e) = ap abs_range (replaced-range e)
    replaced-form at (n_min a b) = ap-two min_ranges (replaced-range a) (replaced-range b)
    replaced-form at (n_max a b) = ap-two max_ranges (replaced-range a) (replaced-range b)
    replaced-form at (n_sum e es) = replaced-sum es _ _ (replaced-range e)
    replaced-form at (n_product e es) = replaced-product es _ _ (replaced-range e)
    replaced-form at (n_compare a op b) = refl
    replaced-form at (n_and es) = refl
    replaced-form at (n_or es) = refl
    replaced-form at (n_implies a b) = refl
    replaced-form at (n_iff a b) = refl
    replaced-form at (n_if bs e) = replaced-cases bs _ _ (replaced-range e)

    replaced-sum : (es : NetTerms) (a b : Range) → a ≡ b → sum_range g a (terms_replaced by es) ≡ sum_range inner b es
    replaced-sum no_net_terms a b p = p
    replaced-sum (net_terms m e es) a b p = replaced-sum es _ _ (ap-two (add_ranges m) p (replaced-range e))

    replaced-product : (es : NetFactors) (a b : Range) → a ≡ b → product_range g a (factors_replaced by es) ≡ product_range inner b es
    replaced-product no_net_factors a b p = p
    replaced-product (net_factors op e es) a b p = replaced-product es _ _ (ap-two (mul_ranges op) p (replaced-range e))

    replaced-cases : (bs : NetBranches) (a b : Range) → a ≡ b → cases_range g a (branches_replaced by bs) ≡ cases_range inner b bs
    replaced-cases no_net_branches a b p = p
    replaced-cases (net_branches c e bs) a b p = ap-two joined (replaced-range e) (replaced-cases bs a b p)

-- ---- size and depth

placed-measure : (alg : ℕ → Measure) (at : ℕ) (e : NetExpr) → measure_by alg (placed at e) ≡ measure_by alg e
placed-measure alg at (net_expr f k) = refl

module _ (by : ℕ → NetExpr) (alg : ℕ → Measure) where
  -- with the measures of what replaces them
  abbrev pub given : ℕ → Measure
  given k = measure_by alg (by k)

  mutual
    pub replaced-measure : (e : NetExpr) → measure_by alg (replaced by e) ≡ measure_by given e
    replaced-measure (net_expr f at) = form-measured at f

    form-measured : (at : ℕ) (f : NetForm) → measure_by alg (form_replaced by at f) ≡ form_measure given f
    form-measured at (n_truth b) = refl
    form-measured at (n_number z) = refl
    form-measured at (n_loc a k) = refl
    form-measured at (n_var k) = refl
    form-measured at (n_input k) = refl
    form-measured at (n_alg k) = placed-measure alg at (by k)
    form-measured at n_received = refl
    form-measured at (n_minus e) = ap above (replaced-measure e)
    form-measured at (n_plus e) = ap above (replaced-measure e)
    form-measured at (n_not e) = ap above (replaced-measure e)
    form-measured at (n_abs e) = ap above (replaced-measure e)
    form-measured at (n_min a b) = ap above (ap-two beside (replaced-measure a) (replaced-measure b))
    form-measured at (n_max a b) = ap above (ap-two beside (replaced-measure a) (replaced-measure b))
    form-measured at (n_sum e es) = ap above (ap-two beside (replaced-measure e) (terms-measured es))
    form-measured at (n_product e es) = ap above (ap-two beside (replaced-measure e) (factors-measured es))
    form-measured at (n_compare a op b) = ap above (ap-two beside (replaced-measure a) (replaced-measure b))
    form-measured at (n_and es) = ap above (list-measured es)
    form-measured at (n_or es) = ap above (list-measured es)
    form-measured at (n_implies a b) = ap above (ap-two beside (replaced-measure a) (replaced-measure b))
    form-measured at (n_iff a b) = ap above (ap-two beside (replaced-measure a) (replaced-measure b))
    form-measured at (n_if bs e) = ap above (ap-two beside (branches-measured bs) (replaced-measure e))

    terms-measured : (es : NetTerms) → terms_measure alg (terms_replaced by es) ≡ terms_measure given es
    terms-measured no_net_terms = refl
    terms-measured (net_terms m e es) = ap-two beside (replaced-measure e) (terms-measured es)

    factors-measured : (es : NetFactors) → factors_measure alg (factors_replaced by es) ≡ factors_measure given es
    factors-measured no_net_factors = refl
    factors-measured (net_factors op e es) = ap-two beside (replaced-measure e) (factors-measured es)

    list-measured : (es : NetExprs) → list_measure alg (list_replaced by es) ≡ list_measure given es
    list-measured no_net_exprs = refl
    list-measured (net_exprs e es) = ap-two beside (replaced-measure e) (list-measured es)

    branches-measured : (bs : NetBranches) → branches_measure alg (branches_replaced by bs) ≡ branches_measure given bs
    branches-measured no_net_branches = refl
    branches-measured (net_branches c e bs) = ap-two beside (replaced-measure c) (ap-two beside (replaced-measure e) (branches-measured bs))

-- ---- a value for each place: joined over the places, and as many forms more as there are places

module _ (g : Ranges) (a : ℕ) where
  places-range : (k : ℕ) (e : NetExpr) (es : List NetExpr) → cases_range g (range_of g (last_of e es)) (place_branches a k e es) ≡ join_all (range_of g e ∷ map (range_of g) es)
  places-range k e [] = refl
  places-range k e (f ∷ fs) = ap (joined (range_of g e)) (places-range (suc k) f fs)

  pub by_places-range : (es : List NetExpr) → range_of g (by_places a es) ≡ join_all (map (range_of g) es)
  by_places-range [] = refl
  by_places-range (e ∷ []) = refl
  by_places-range (e ∷ f ∷ fs) = places-range 0 e (f ∷ fs)

module _ (alg : ℕ → Measure) (a : ℕ) where
  places-size : (k : ℕ) (e : NetExpr) (es : List NetExpr) → (branches_measure alg (place_branches a k e es)).size + (measure_by alg (last_of e es)).size ≡ (all_beside (map (measure_by alg) (e ∷ es))).size + length es
  places-size k e [] = omega arith
  places-size k e (f ∷ fs) = omega (arith, places-size (suc k) f fs)

  places-depth : (k : ℕ) (e : NetExpr) (es : List NetExpr) → max (branches_measure alg (place_branches a k e es)).depth (measure_by alg (last_of e es)).depth ≡ (all_beside (map (measure_by alg) (e ∷ es))).depth
  places-depth k e [] = omega arith
  places-depth k e (f ∷ fs) = omega (arith, places-depth (suc k) f fs)

  pub by_places-measure : (e : NetExpr) (es : List NetExpr) → measure_by alg (by_places a (e ∷ es)) ≡ by_location (length (e ∷ es)) (all_beside (map (measure_by alg) (e ∷ es)))
  by_places-measure e [] = ap-two (λ s d. record { size = s; depth = d }) (omega arith) (omega arith)
  by_places-measure e (f ∷ fs) = ap-two (λ s d. record { size = s; depth = d }) (omega (arith, places-size 0 e (f ∷ fs))) (omega (arith, places-depth 0 e (f ∷ fs)))
