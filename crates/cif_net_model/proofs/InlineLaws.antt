-- The value of an expression in which algebraic variables are replaced.
use Rattle.std.proofs.Common.{◌≡◌, ℕ, zero, suc, ◌+◌, ℤ, pos, neg_ℤ, nat_abs, nat_eq, true, false, not, ◌&&◌, ◌||◌, List, [], ◌∷◌, refl, ◌∙◌, ap, slice_index_or, if◌then◌else◌, arith}
use Rattle.std.specs.Int.{int_min, int_max}
use Rattle.std.specs.Ordering.{int_eq}
use Rattle.std.proofs.lemmas.Bool.Decides.{nat_tests}
use Rattle.cif_system.specs.System.{State}
use Rattle.cif_net_expr.specs.Tree.{NetExpr, net_expr, NetForm, n_truth, n_number, n_loc, n_var, n_input, n_alg, n_received, n_minus, n_plus, n_not, n_abs, n_min, n_max, n_sum, n_product, n_compare, n_and, n_or, n_implies, n_iff, n_if, NetExprs, no_net_exprs, net_exprs, NetTerms, no_net_terms, net_terms, NetFactors, no_net_factors, net_factors, NetBranches, no_net_branches, net_branches}
use Rattle.cif_net_model.specs.Value.{of_bool, is_true, compared, added, multiplied, net_value, net_form_value, net_sum, net_product, net_all, net_any, net_cases}
use Rattle.cif_net_model.specs.Meaning.{at_or_last}
use Rattle.cif_net_model.specs.Inline.{replaced, form_replaced, terms_replaced, factors_replaced, list_replaced, branches_replaced, place_branches, last_of, by_places}
use Rattle.cif_net_model.specs.Exprs.{placed}
use Rattle.cif_net_model.proofs.ValueLaws.{ap-two, either-alike}

-- ---- the value

-- a place has no value
pub placed-value : (alg : ℕ → ℤ) (s : State) (r : ℤ) (at : ℕ) (e : NetExpr) → net_value alg s r (placed at e) ≡ net_value alg s r e
placed-value alg s r at (net_expr f k) = refl

module _ (by : ℕ → NetExpr) (alg : ℕ → ℤ) (s : State) (r : ℤ) where
  -- the values of what replaces them
  abbrev pub inner : ℕ → ℤ
  inner k = net_value alg s r (by k)

  mutual
    pub replaced-value : (e : NetExpr) → net_value alg s r (replaced by e) ≡ net_value inner s r e
    replaced-value (net_expr f at) = form-value at f

    form-value : (at : ℕ) (f : NetForm) → net_value alg s r (form_replaced by at f) ≡ net_form_value inner s r f
    form-value at (n_truth b) = refl
    form-value at (n_number z) = refl
    form-value at (n_loc a k) = refl
    form-value at (n_var k) = refl
    form-value at (n_input k) = refl
    form-value at (n_alg k) = placed-value alg s r at (by k)
    form-value at n_received = refl
    form-value at (n_minus e) = ap neg_ℤ (replaced-value e)
    form-value at (n_plus e) = replaced-value e
    form-value at (n_not e) = ap (λ z. of_bool (not (is_true z))) (replaced-value e)
    form-value at (n_abs e) = ap (λ z. pos (nat_abs z)) (replaced-value e)
    form-value at (n_min a b) = ap-two int_min (replaced-value a) (replaced-value b)
    form-value at (n_max a b) = ap-two int_max (replaced-value a) (replaced-value b)
    form-value at (n_sum e es) = sum-value es _ _ (replaced-value e)
    form-value at (n_product e es) = product-value es _ _ (replaced-value e)
    form-value at (n_compare a op b) = ap-two (λ y z. of_bool (compared op y z)) (replaced-value a) (replaced-value b)
    form-value at (n_and es) = ap of_bool (all-value es)
    form-value at (n_or es) = ap of_bool (any-value es)
    form-value at (n_implies a b) = ap-two (λ y z. of_bool (not (is_true y) || is_true z)) (replaced-value a) (replaced-value b)
    form-value at (n_iff a b) = ap-two (λ y z. of_bool (int_eq y z)) (replaced-value a) (replaced-value b)
    form-value at (n_if bs e) = cases-value bs _ _ (replaced-value e)

    sum-value : (es : NetTerms) (y z : ℤ) → y ≡ z → net_sum alg s r y (terms_replaced by es) ≡ net_sum inner s r z es
    sum-value no_net_terms y z p = p
    sum-value (net_terms m e es) y z p = sum-value es _ _ (ap-two (added m) p (replaced-value e))

    product-value : (es : NetFactors) (y z : ℤ) → y ≡ z → net_product alg s r y (factors_replaced by es) ≡ net_product inner s r z es
    product-value no_net_factors y z p = p
    product-value (net_factors op e es) y z p = product-value es _ _ (ap-two (multiplied op) p (replaced-value e))

    all-value : (es : NetExprs) → net_all alg s r (list_replaced by es) ≡ net_all inner s r es
    all-value no_net_exprs = refl
    all-value (net_exprs e es) = ap-two (λ z b. is_true z && b) (replaced-value e) (all-value es)

    any-value : (es : NetExprs) → net_any alg s r (list_replaced by es) ≡ net_any inner s r es
    any-value no_net_exprs = refl
    any-value (net_exprs e es) = ap-two (λ z b. is_true z || b) (replaced-value e) (any-value es)

    cases-value : (bs : NetBranches) (y z : ℤ) → y ≡ z → net_cases alg s r y (branches_replaced by bs) ≡ net_cases inner s r z bs
    cases-value no_net_branches y z p = p
    cases-value (net_branches c e bs) y z p = either-alike (ap is_true (replaced-value c)) (replaced-value e) (cases-value bs y z p)

-- ---- a value for each place

module _ (alg : ℕ → ℤ) (s : State) (r : ℤ) (a : ℕ) where
  -- the place is j places after k
  branches-value : (e : NetExpr) (es : List NetExpr) (k j : ℕ) → slice_index_or s.locs a 0 ≡ k + j → net_cases alg s r (net_value alg s r (last_of e es)) (place_branches a k e es) ≡ at_or_last (e ∷ es) j (net_value alg s r)
  branches-value e [] k j h = refl
  branches-value e (f ∷ fs) k zero h =
      let t : nat_eq (slice_index_or s.locs a 0) k ≡ true = grind (arith, nat_tests) in
      ap (λ b. if is_true (of_bool b) then net_value alg s r e else net_cases alg s r (net_value alg s r (last_of f fs)) (place_branches a (suc k) f fs)) t
  branches-value e (f ∷ fs) k (suc j) h =
      let t : nat_eq (slice_index_or s.locs a 0) k ≡ false = grind (arith, nat_tests) in
      ap (λ b. if is_true (of_bool b) then net_value alg s r e else net_cases alg s r (net_value alg s r (last_of f fs)) (place_branches a (suc k) f fs)) t
      ∙ branches-value f fs (suc k) j (omega (arith, h))

  pub by_places-value : (es : List NetExpr) → net_value alg s r (by_places a es) ≡ at_or_last es (slice_index_or s.locs a 0) (net_value alg s r)
  by_places-value [] = refl
  by_places-value (e ∷ []) = refl
  by_places-value (e ∷ f ∷ fs) = branches-value e (f ∷ fs) 0 (slice_index_or s.locs a 0) (omega arith)
