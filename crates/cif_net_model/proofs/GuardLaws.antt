-- A guard that holds narrows ranges to numbers among which the values are, so that a shown value lies in its range.
use Rattle.std.proofs.Common.{◌≡◌, ℕ, ℤ, pos, Bool, true, false, ◌&&◌, List, [], ◌∷◌, refl, sym, ◌∙◌, ap, subst, slice_index_or, arith}
use Rattle.std.specs.List.{AllByRecursion}
use Rattle.std.specs.Ordering.{int_eq}
use Rattle.std.proofs.lemmas.Int.{ints, clamps}
use Rattle.std.proofs.lemmas.Bool.Decides.{nat_tests, Decides-int_eq}
use Rattle.cif_system.specs.System.{Range, State}
use Rattle.cif_net_expr.specs.Tree.{CmpOp, eq, ne, lt, le, gt, ge, NetExpr, net_expr, NetForm, n_truth, n_number, n_loc, n_var, n_input, n_alg, n_received, n_minus, n_plus, n_not, n_abs, n_min, n_max, n_sum, n_product, n_compare, n_and, n_or, n_implies, n_iff, n_if, NetExprs, no_net_exprs, net_exprs}
use Rattle.cif_net_model.specs.Value.{of_bool, is_true, compared, net_value, net_all}
use Rattle.cif_net_model.specs.Reads.{Read, a_var, an_input, is_fixed}
use Rattle.cif_net_model.specs.Shown.{conjuncts, form_conjuncts, list_conjuncts, cut, cut_if, turned, is_the, fixed_value, narrowed_by, narrowed_all}
use Rattle.cif_net_model.proofs.Passing.{and-left, and-right}
use Rattle.cif_net_model.proofs.IntervalLaws.{Fit}
use Rattle.cif_net_model.proofs.PartLaws.{all-append}
use Rattle.cif_net_model.proofs.PlainLaws.{never}
use Rattle.cif_net_model.proofs.ValueLaws.{value-fixed}

truth-of : (b : Bool) → is_true (of_bool b) ≡ b
truth-of true = refl
truth-of false = refl

equal-from_test : (x y : ℤ) → int_eq x y ≡ true → x ≡ y
equal-from_test x y h = (Decides-int_eq x y).0 h

-- ---- cuts

cut-fits : (op : CmpOp) (k z : ℤ) (r d : Range) → compared op z k ≡ true → Fit r d z → Fit (cut op k r) d z
cut-fits eq k z r d h i = let e : z ≡ k = equal-from_test z k h in omega (arith, ints, clamps)
cut-fits ne k z r d h i = i
cut-fits lt k z r d h i = grind (arith, ints, clamps)
cut-fits le k z r d h i = grind (arith, ints, clamps)
cut-fits gt k z r d h i = grind (arith, ints, clamps)
cut-fits ge k z r d h i = grind (arith, ints, clamps)

turned-fits : (op : CmpOp) (k z : ℤ) (r d : Range) → compared op k z ≡ true → Fit r d z → Fit (cut (turned op) k r) d z
turned-fits eq k z r d h i = let e : k ≡ z = equal-from_test k z h in omega (arith, ints, clamps)
turned-fits ne k z r d h i = i
turned-fits lt k z r d h i = cut-fits gt k z r d h i
turned-fits le k z r d h i = cut-fits ge k z r d h i
turned-fits gt k z r d h i = cut-fits lt k z r d h i
turned-fits ge k z r d h i = cut-fits le k z r d h i

cut_if-fits : (t : Bool) (op : CmpOp) (k z : ℤ) (r d : Range) → (t ≡ true → Fit (cut op k r) d z) → Fit r d z → Fit (cut_if t op k r) d z
cut_if-fits true op k z r d h i = h refl
cut_if-fits false op k z r d h i = i

module _ (alg : ℕ → ℤ) (s : State) (r : ℤ) where
  abbrev pub Holds : NetExpr → Type 0
  Holds e = is_true (net_value alg s r e) ≡ true

  -- each conjunct of an expression that holds

  mutual
    pub conjuncts-hold : (e : NetExpr) → Holds e → AllByRecursion Holds (conjuncts e)
    conjuncts-hold (net_expr f at) h = form-conjuncts at f h

    form-conjuncts : (at : ℕ) (f : NetForm) → Holds (net_expr f at) → AllByRecursion Holds (form_conjuncts at f)
    form-conjuncts at (n_truth b) h = (h, tt)
    form-conjuncts at (n_number y) h = (h, tt)
    form-conjuncts at (n_loc a k) h = (h, tt)
    form-conjuncts at (n_var k) h = (h, tt)
    form-conjuncts at (n_input k) h = (h, tt)
    form-conjuncts at (n_alg k) h = (h, tt)
    form-conjuncts at n_received h = (h, tt)
    form-conjuncts at (n_minus e) h = (h, tt)
    form-conjuncts at (n_plus e) h = (h, tt)
    form-conjuncts at (n_not e) h = (h, tt)
    form-conjuncts at (n_abs e) h = (h, tt)
    form-conjuncts at (n_min a b) h = (h, tt)
    form-conjuncts at (n_max a b) h = (h, tt)
    form-conjuncts at (n_sum e es) h = (h, tt)
    form-conjuncts at (n_product e es) h = (h, tt)
    form-conjuncts at (n_compare a op b) h = (h, tt)
    form-conjuncts at (n_and es) h = list-conjuncts es (sym (truth-of _) ∙ h)
    form-conjuncts at (n_or es) h = (h, tt)
    form-conjuncts at (n_implies a b) h = (h, tt)
    form-conjuncts at (n_iff a b) h = (h, tt)
    form-conjuncts at (n_if bs e) h = (h, tt)

    list-conjuncts : (es : NetExprs) → net_all alg s r es ≡ true → AllByRecursion Holds (list_conjuncts es)
    list-conjuncts no_net_exprs h = tt
    list-conjuncts (net_exprs e es) h = all-append Holds (conjuncts e) _ (conjuncts-hold e (and-left _ _ h)) (list-conjuncts es (and-right _ _ h))

  -- the value of an expression that is a variable or an input alone

  pub alone-var : (k : ℕ) (f : NetForm) (at : ℕ) → is_the (a_var k) (net_expr f at) ≡ true → net_value alg s r (net_expr f at) ≡ slice_index_or s.vals k (pos 0)
  alone-var k (n_truth b) at h = never h
  alone-var k (n_number y) at h = never h
  alone-var k (n_loc a j) at h = never h
  alone-var k (n_var j) at h = let e : j ≡ k = grind (arith, nat_tests) in ap (λ i. slice_index_or s.vals i (pos 0)) e
  alone-var k (n_input j) at h = never h
  alone-var k (n_alg j) at h = never h
  alone-var k n_received at h = never h
  alone-var k (n_minus e) at h = never h
  alone-var k (n_plus e) at h = never h
  alone-var k (n_not e) at h = never h
  alone-var k (n_abs e) at h = never h
  alone-var k (n_min a b) at h = never h
  alone-var k (n_max a b) at h = never h
  alone-var k (n_sum e es) at h = never h
  alone-var k (n_product e es) at h = never h
  alone-var k (n_compare a op b) at h = never h
  alone-var k (n_and es) at h = never h
  alone-var k (n_or es) at h = never h
  alone-var k (n_implies a b) at h = never h
  alone-var k (n_iff a b) at h = never h
  alone-var k (n_if bs e) at h = never h

  pub alone-input : (k : ℕ) (f : NetForm) (at : ℕ) → is_the (an_input k) (net_expr f at) ≡ true → net_value alg s r (net_expr f at) ≡ slice_index_or s.ins k (pos 0)
  alone-input k (n_truth b) at h = never h
  alone-input k (n_number y) at h = never h
  alone-input k (n_loc a j) at h = never h
  alone-input k (n_var j) at h = never h
  alone-input k (n_input j) at h = let e : j ≡ k = grind (arith, nat_tests) in ap (λ i. slice_index_or s.ins i (pos 0)) e
  alone-input k (n_alg j) at h = never h
  alone-input k n_received at h = never h
  alone-input k (n_minus e) at h = never h
  alone-input k (n_plus e) at h = never h
  alone-input k (n_not e) at h = never h
  alone-input k (n_abs e) at h = never h
  alone-input k (n_min a b) at h = never h
  alone-input k (n_max a b) at h = never h
  alone-input k (n_sum e es) at h = never h
  alone-input k (n_product e es) at h = never h
  alone-input k (n_compare a op b) at h = never h
  alone-input k (n_and es) at h = never h
  alone-input k (n_or es) at h = never h
  alone-input k (n_implies a b) at h = never h
  alone-input k (n_iff a b) at h = never h
  alone-input k (n_if bs e) at h = never h

  fixed : (e : NetExpr) → is_fixed e ≡ true → net_value alg s r e ≡ fixed_value e
  fixed e h = value-fixed (record { algs = alg; state = s; received = r }) (record { algs = λ k. pos 0; state = record { locs = []; vals = []; ins = [] }; received = pos 0 }) e h

  module _ (v : Read) (z : ℤ) (d : Range) (alone : (f : NetForm) (at : ℕ) → is_the v (net_expr f at) ≡ true → net_value alg s r (net_expr f at) ≡ z) where
    is-alone : (e : NetExpr) → is_the v e ≡ true → net_value alg s r e ≡ z
    is-alone (net_expr f at) h = alone f at h

    straight : (b : NetExpr) (op : CmpOp) (c : NetExpr) → compared op (net_value alg s r b) (net_value alg s r c) ≡ true → (is_the v b && is_fixed c) ≡ true → compared op z (fixed_value c) ≡ true
    straight b op c t o =
        subst (λ y. compared op y (fixed_value c) ≡ true) (is-alone b (and-left (is_the v b) (is_fixed c) o))
        (subst (λ y. compared op (net_value alg s r b) y ≡ true) (fixed c (and-right (is_the v b) (is_fixed c) o)) t)

    swapped : (b : NetExpr) (op : CmpOp) (c : NetExpr) → compared op (net_value alg s r b) (net_value alg s r c) ≡ true → (is_the v c && is_fixed b) ≡ true → compared op (fixed_value b) z ≡ true
    swapped b op c t o =
        subst (λ y. compared op (fixed_value b) y ≡ true) (is-alone c (and-left (is_the v c) (is_fixed b) o))
        (subst (λ y. compared op y (net_value alg s r c) ≡ true) (fixed b (and-right (is_the v c) (is_fixed b) o)) t)

    narrowed_by-fits : (f : NetForm) (at : ℕ) (a : Range) → Holds (net_expr f at) → Fit a d z → Fit (narrowed_by v (net_expr f at) a) d z
    narrowed_by-fits (n_truth b) at a h i = i
    narrowed_by-fits (n_number y) at a h i = i
    narrowed_by-fits (n_loc b k) at a h i = i
    narrowed_by-fits (n_var k) at a h i = i
    narrowed_by-fits (n_input k) at a h i = i
    narrowed_by-fits (n_alg k) at a h i = i
    narrowed_by-fits n_received at a h i = i
    narrowed_by-fits (n_minus e) at a h i = i
    narrowed_by-fits (n_plus e) at a h i = i
    narrowed_by-fits (n_not e) at a h i = i
    narrowed_by-fits (n_abs e) at a h i = i
    narrowed_by-fits (n_min b c) at a h i = i
    narrowed_by-fits (n_max b c) at a h i = i
    narrowed_by-fits (n_sum e es) at a h i = i
    narrowed_by-fits (n_product e es) at a h i = i
    narrowed_by-fits (n_compare b op c) at a h i =
        let t : compared op (net_value alg s r b) (net_value alg s r c) ≡ true = sym (truth-of (compared op (net_value alg s r b) (net_value alg s r c))) ∙ h in
        let inner : Range = cut_if (is_the v c && is_fixed b) (turned op) (fixed_value b) a in
        let q : Fit inner d z = cut_if-fits (is_the v c && is_fixed b) (turned op) (fixed_value b) z a d (λ o. turned-fits op (fixed_value b) z a d (swapped b op c t o) i) i in
        cut_if-fits (is_the v b && is_fixed c) op (fixed_value c) z inner d (λ o. cut-fits op (fixed_value c) z inner d (straight b op c t o) q) q
    narrowed_by-fits (n_and es) at a h i = i
    narrowed_by-fits (n_or es) at a h i = i
    narrowed_by-fits (n_implies b c) at a h i = i
    narrowed_by-fits (n_iff b c) at a h i = i
    narrowed_by-fits (n_if bs e) at a h i = i

    pub narrowed_all-fits : (es : List NetExpr) (a : Range) → AllByRecursion Holds es → Fit a d z → Fit (narrowed_all v es a) d z
    narrowed_all-fits [] a h i = i
    narrowed_all-fits (net_expr f at ∷ es) a h i = narrowed_by-fits f at _ h.0 (narrowed_all-fits es a h.1 i)
