-- The interval that is told part by part is that of the expression, in which then no divisor may be 0 and each part is in 64
-- bits; and where none is told, one of both rules is broken.
use Rattle.std.proofs.Common.{◌≡◌, ℕ, pos, Bool, true, false, not, [], ◌∷◌, ◌++◌, None, Result, Ok, Err, inl, refl, sym, ◌∙◌, ap, subst, IfOk, IfErr, if◌then◌else◌, arith}
use Rattle.std.specs.List.{list_all}
use Rattle.std.proofs.lemmas.Int.{ints, clamps}
use Rattle.cif_base.specs.Bounds.{Bounds, contains, neg_bounds, mul_bounds, div_bounds, rem_bounds, abs_bounds, min_bounds, max_bounds, join_bounds, within_64, divided_by}
use Rattle.cif_base.specs.Bounds as bounds
use Rattle.cif_system.specs.System.{Range, in_range}
use Rattle.cif_system.specs.Words.{Member}
use Rattle.cif_system.proofs.Picks.{append-right, flat_map-member}
use Rattle.cif_net_expr.specs.Tree.{MulOp, times, divided, modulo, NetExpr, net_expr, NetForm, n_truth, n_number, n_loc, n_var, n_input, n_alg, n_received, n_minus, n_plus, n_not, n_abs, n_min, n_max, n_sum, n_product, n_compare, n_and, n_or, n_implies, n_iff, n_if, NetExprs, no_net_exprs, net_exprs, NetTerms, no_net_terms, net_terms, NetFactors, no_net_factors, net_factors, NetBranches, no_net_branches, net_branches}
use Rattle.cif_net_model.specs.Interval.{truths, as_bounds, as_range, joined, neg_range, add_ranges, mul_ranges, abs_range, min_ranges, max_ranges, Ranges, range_of, form_range, sum_range, product_range, cases_range}
use Rattle.cif_net_model.specs.Exprs.{expr_at}
use Rattle.cif_net_model.specs.Parts.{add_term, add_factor, parts, form_parts, list_parts, branch_parts, sum_parts, product_parts, factor_divisors, own_divisors, part_divides, divides, is_narrow_expr}
use Rattle.cif_net_model.proofs.ValueLaws.{ap-two}
use Rattle.cif_alg_measure.specs.declared.error.WidthErr.{WidthErr}
use Rattle.cif_alg_measure.specs.declared.error.WidthErr.TheVariants.{ZeroDivisor, TooWide}
use Rattle.cif_alg_measure.specs.Checked.{◌>>=◌, truth_bounds, fitted, by_divisor, added, multiplied, checked, checked_form, checked_all, checked_sum, checked_product, checked_cases}
use Rattle.cif_alg_measure.specs.Faults.{HasFault}
use Rattle.cif_alg_measure.proofs.Says.{and-both, pass-both, FaultIn, Says, Is, then-says, own-says, both-says, step-says, same-says, keep-says, is-narrow, clean-only, fitted-says}

-- ---- one operand more

added-range : (m : Bool) (a b : Bounds) → as_range (added m a b) ≡ add_ranges m (as_range a) (as_range b)
added-range true a b = refl
added-range false a b = refl

sum_range-more : (g : Ranges) (a : Range) (es : NetTerms) (m : Bool) (e : NetExpr) → sum_range g a (add_term es m e) ≡ add_ranges m (sum_range g a es) (range_of g e)
sum_range-more g a no_net_terms m e = refl
sum_range-more g a (net_terms o x xs) m e = sum_range-more g (add_ranges o a (range_of g x)) xs m e

product_range-more : (g : Ranges) (a : Range) (es : NetFactors) (op : MulOp) (e : NetExpr) → product_range g a (add_factor es op e) ≡ mul_ranges op (product_range g a es) (range_of g e)
product_range-more g a no_net_factors op e = refl
product_range-more g a (net_factors o x xs) op e = product_range-more g (mul_ranges o a (range_of g x)) xs op e

divisors-more : (es : NetFactors) (op : MulOp) (e : NetExpr) → factor_divisors (add_factor es op e) ≡ factor_divisors es ++ factor_divisors (net_factors op e no_net_factors)
divisors-more no_net_factors op e = refl
divisors-more (net_factors times x xs) op e = divisors-more xs op e
divisors-more (net_factors divided x xs) op e = ap (λ ds. x ∷ ds) (divisors-more xs op e)
divisors-more (net_factors modulo x xs) op e = ap (λ ds. x ∷ ds) (divisors-more xs op e)

-- ---- joins

joined-swap : (x y z : Range) → joined x (joined y z) ≡ joined y (joined x z)
joined-swap x y z = grind (arith, ints, clamps)

cases-join : (g : Ranges) (bs : NetBranches) (x r : Range) → cases_range g (joined x r) bs ≡ joined x (cases_range g r bs)
cases-join g no_net_branches x r = refl
cases-join g (net_branches c e bs) x r = ap (joined (range_of g e)) (cases-join g bs x r) ∙ joined-swap (range_of g e) x (cases_range g r bs)

join-narrow : (a b : Bounds) → bounds.is_narrow a ≡ true → bounds.is_narrow b ≡ true → bounds.is_narrow (join_bounds a b) ≡ true
join-narrow a b h k = grind (arith, ints, clamps)

module _ (g : Ranges) where
  abbrev has_no_zero : NetExpr → Bool
  has_no_zero d = not (in_range (range_of g d) (pos 0))

  -- ---- products

  -- the product so far, with one operand more
  abbrev whole : (at : ℕ) → NetExpr → NetFactors → MulOp → NetExpr → NetExpr
  whole at first before op e = net_expr (n_product first (add_factor before op e)) at

  divides-more : (before : NetFactors) (op : MulOp) (e : NetExpr) → list_all has_no_zero (factor_divisors before) ≡ true → list_all has_no_zero (factor_divisors (net_factors op e no_net_factors)) ≡ true
      → list_all has_no_zero (factor_divisors (add_factor before op e)) ≡ true
  divides-more before op e h k = ap (list_all has_no_zero) (divisors-more before op e) ∙ pass-both has_no_zero (factor_divisors before) (factor_divisors (net_factors op e no_net_factors)) h k

  divisor-member : (before : NetFactors) (op : MulOp) (e : NetExpr) → Member e (factor_divisors (net_factors op e no_net_factors)) → Member e (factor_divisors (add_factor before op e))
  divisor-member before op e m = subst (Member e) (sym (divisors-more before op e)) (append-right e (factor_divisors before) _ m)

  -- a divisor e of p, and then the quotient or the remainder
  divisor-says : (at : ℕ) (p e : NetExpr) (b c : Bounds) (r : Range) → expr_at p ≡ at → range_of g p ≡ r → as_range c ≡ r → as_range b ≡ range_of g e → Member e (own_divisors p) → (has_no_zero e ≡ true → part_divides g p ≡ true)
      → Says g (p ∷ []) (Is r) (by_divisor at (expr_at e) b (divided_by b (within_64 c)))
  divisor-says at p e b c r s i h k m d = by (contains b (pos 0)) refl
    where
      by : (t : Bool) → contains b (pos 0) ≡ t → Says g (p ∷ []) (Is r) (if t then Err (ZeroDivisor (expr_at e)) else fitted at (if t then None else within_64 c))
      by true z = (p, inl refl, (e, m, refl, ap (λ q. in_range q (pos 0)) (sym k) ∙ z))
      by false z = fitted-says g p at c r s (d (ap not (ap (λ q. in_range q (pos 0)) (sym k) ∙ z))) i h

  multiplied-says : (at : ℕ) (first : NetExpr) (before : NetFactors) (op : MulOp) (e : NetExpr) (a b : Bounds) (r : Range)
      → range_of g (whole at first before op e) ≡ mul_ranges op r (range_of g e) → as_range a ≡ r → as_range b ≡ range_of g e → list_all has_no_zero (factor_divisors before) ≡ true
      → Says g (whole at first before op e ∷ []) (Is (mul_ranges op r (range_of g e))) (multiplied op at (expr_at e) a b)
  multiplied-says at first before times e a b r i h k d =
      fitted-says g (whole at first before times e) at (mul_bounds a b) _ refl (divides-more before times e d refl) i (ap-two (mul_ranges times) h k)
  multiplied-says at first before divided e a b r i h k d =
      divisor-says at (whole at first before divided e) e b (div_bounds a b) _ refl i (ap-two (mul_ranges divided) h k) k (divisor-member before divided e (inl refl)) (λ z. divides-more before divided e d (and-both _ _ z refl))
  multiplied-says at first before modulo e a b r i h k d =
      divisor-says at (whole at first before modulo e) e b (rem_bounds a b) _ refl i (ap-two (mul_ranges modulo) h k) k (divisor-member before modulo e (inl refl)) (λ z. divides-more before modulo e d (and-both _ _ z refl))

  -- ---- all forms

  -- a part without operands
  known-says : (p : NetExpr) (at : ℕ) (r : Range) → expr_at p ≡ at → part_divides g p ≡ true → range_of g p ≡ r → Says g (p ∷ []) (Is r) (fitted at (within_64 (as_bounds r)))
  known-says p at r e d i = fitted-says g p at (as_bounds r) r e d i refl

  truth-says : (a b : NetExpr) → Says g (parts a) (Is (range_of g a)) (checked g a) → Says g (parts b) (Is (range_of g b)) (checked g b)
      → Says g (parts a ++ parts b) (Is truths) (checked g a >>= λ x. (checked g b >>= λ y. Ok truth_bounds))
  truth-says a b h k = both-says g [] (parts a) (parts b) (Is (range_of g a)) (Is (range_of g b)) (Is truths) (checked g a) (checked g b) (λ x y. Ok truth_bounds) h k (λ x y i j. ((refl, refl), (refl, refl)))

  mutual
    pub checked-says : (e : NetExpr) → Says g (parts e) (Is (range_of g e)) (checked g e)
    checked-says (net_expr f at) = form-says at f

    form-says : (at : ℕ) (f : NetForm) → Says g (form_parts at f) (Is (form_range g f)) (checked_form g at f)
    form-says at (n_truth b) = ((refl, refl), (refl, refl))
    form-says at (n_number z) = known-says (net_expr (n_number z) at) at _ refl refl refl
    form-says at (n_loc a p) = ((refl, refl), (refl, refl))
    form-says at (n_var k) = known-says (net_expr (n_var k) at) at _ refl refl refl
    form-says at (n_input k) = known-says (net_expr (n_input k) at) at _ refl refl refl
    form-says at (n_alg k) = known-says (net_expr (n_alg k) at) at _ refl refl refl
    form-says at n_received = known-says (net_expr n_received at) at _ refl refl refl
    form-says at (n_minus e) =
        own-says g (net_expr (n_minus e) at ∷ []) (parts e) (Is (range_of g e)) (Is (neg_range (range_of g e))) (checked g e) (λ a. fitted at (within_64 (neg_bounds a)))
        (checked-says e) (λ a h. fitted-says g (net_expr (n_minus e) at) at (neg_bounds a) _ refl refl refl (ap neg_range h.0))
    form-says at (n_plus e) =
        same-says g (net_expr (n_plus e) at ∷ []) (parts e) (Is (range_of g e)) (checked g e) (checked-says e) (λ a h. clean-only g (net_expr (n_plus e) at) refl (is-narrow (range_of g e) a h))
    form-says at (n_not e) = own-says g [] (parts e) (Is (range_of g e)) (Is truths) (checked g e) (λ a. Ok truth_bounds) (checked-says e) (λ a h. ((refl, refl), (refl, refl)))
    form-says at (n_abs e) =
        own-says g (net_expr (n_abs e) at ∷ []) (parts e) (Is (range_of g e)) (Is (abs_range (range_of g e))) (checked g e) (λ a. fitted at (within_64 (abs_bounds a)))
        (checked-says e) (λ a h. fitted-says g (net_expr (n_abs e) at) at (abs_bounds a) _ refl refl refl (ap abs_range h.0))
    form-says at (n_min a b) =
        both-says g (net_expr (n_min a b) at ∷ []) (parts a) (parts b) (Is (range_of g a)) (Is (range_of g b)) (Is (min_ranges (range_of g a) (range_of g b))) (checked g a) (checked g b) (λ x y. fitted at (within_64 (min_bounds x y)))
        (checked-says a) (checked-says b) (λ x y h k. fitted-says g (net_expr (n_min a b) at) at (min_bounds x y) _ refl refl refl (ap-two min_ranges h.0 k.0))
    form-says at (n_max a b) =
        both-says g (net_expr (n_max a b) at ∷ []) (parts a) (parts b) (Is (range_of g a)) (Is (range_of g b)) (Is (max_ranges (range_of g a) (range_of g b))) (checked g a) (checked g b) (λ x y. fitted at (within_64 (max_bounds x y)))
        (checked-says a) (checked-says b) (λ x y h k. fitted-says g (net_expr (n_max a b) at) at (max_bounds x y) _ refl refl refl (ap-two max_ranges h.0 k.0))
    form-says at (n_sum e es) =
        then-says g (parts e) (sum_parts at e no_net_terms es) (Is (range_of g e)) (Is (sum_range g (range_of g e) es)) (checked g e) (λ a. checked_sum g at a es)
        (checked-says e) (λ a h. sum-says at e no_net_terms es a (range_of g e) refl h)
    form-says at (n_product e es) =
        then-says g (parts e) (product_parts at e no_net_factors es) (Is (range_of g e)) (Is (product_range g (range_of g e) es)) (checked g e) (λ a. checked_product g at a es)
        (checked-says e) (λ a h. product-says at e no_net_factors es a (range_of g e) refl h refl)
    form-says at (n_compare a op b) = truth-says a b (checked-says a) (checked-says b)
    form-says at (n_and es) = all-says es
    form-says at (n_or es) = all-says es
    form-says at (n_implies a b) = truth-says a b (checked-says a) (checked-says b)
    form-says at (n_iff a b) = truth-says a b (checked-says a) (checked-says b)
    form-says at (n_if bs e) =
        same-says g (net_expr (n_if bs e) at ∷ []) (branch_parts bs ++ parts e) (Is (cases_range g (range_of g e) bs)) (checked g e >>= λ a. checked_cases g a bs)
        (own-says g (branch_parts bs) (parts e) (Is (range_of g e)) (Is (cases_range g (range_of g e) bs)) (checked g e) (λ a. checked_cases g a bs)
        (checked-says e) (λ a h. cases-says bs a (range_of g e) h))
        (λ a h. clean-only g (net_expr (n_if bs e) at) refl (is-narrow (cases_range g (range_of g e) bs) a h))

    all-says : (es : NetExprs) → Says g (list_parts es) (Is truths) (checked_all g es)
    all-says no_net_exprs = ((refl, refl), (refl, refl))
    all-says (net_exprs e es) = then-says g (parts e) (list_parts es) (Is (range_of g e)) (Is truths) (checked g e) (λ a. checked_all g es) (checked-says e) (λ a h. all-says es)

    sum-says : (at : ℕ) (first : NetExpr) (before es : NetTerms) (a : Bounds) (r : Range) → sum_range g (range_of g first) before ≡ r → Is r a
        → Says g (sum_parts at first before es) (Is (sum_range g r es)) (checked_sum g at a es)
    sum-says at first before no_net_terms a r q h = (h, (refl, refl))
    sum-says at first before (net_terms m e es) a r q h =
        let p : NetExpr = net_expr (n_sum first (add_term before m e)) at in
        let i : range_of g p ≡ add_ranges m r (range_of g e) = sum_range-more g (range_of g first) before m e ∙ ap (λ x. add_ranges m x (range_of g e)) q in
        step-says g (p ∷ []) (parts e) (sum_parts at first (add_term before m e) es) (Is (range_of g e)) (Is (add_ranges m r (range_of g e))) (Is (sum_range g (add_ranges m r (range_of g e)) es))
        (checked g e) (λ b. fitted at (within_64 (added m a b))) (λ s. checked_sum g at s es)
        (checked-says e) (λ b k. fitted-says g p at (added m a b) _ refl refl i (added-range m a b ∙ ap-two (add_ranges m) h.0 k.0))
        (λ s k. sum-says at first (add_term before m e) es s (add_ranges m r (range_of g e)) i k)

    product-says : (at : ℕ) (first : NetExpr) (before es : NetFactors) (a : Bounds) (r : Range) → product_range g (range_of g first) before ≡ r → Is r a → list_all has_no_zero (factor_divisors before) ≡ true
        → Says g (product_parts at first before es) (Is (product_range g r es)) (checked_product g at a es)
    product-says at first before no_net_factors a r q h d = (h, (refl, refl))
    product-says at first before (net_factors op e es) a r q h d =
        let p : NetExpr = whole at first before op e in
        let i : range_of g p ≡ mul_ranges op r (range_of g e) = product_range-more g (range_of g first) before op e ∙ ap (λ x. mul_ranges op x (range_of g e)) q in
        step-says g (p ∷ []) (parts e) (product_parts at first (add_factor before op e) es) (Is (range_of g e)) (λ s. Is (mul_ranges op r (range_of g e)) s × (part_divides g p ≡ true)) (Is (product_range g (mul_ranges op r (range_of g e)) es))
        (checked g e) (λ b. multiplied op at (expr_at e) a b) (λ s. checked_product g at s es)
        (checked-says e) (λ b k. keep-says g p (Is (mul_ranges op r (range_of g e))) (multiplied op at (expr_at e) a b) (multiplied-says at first before op e a b r i h.0 k.0 d))
        (λ s k. product-says at first (add_factor before op e) es s (mul_ranges op r (range_of g e)) i k.0 k.1)

    cases-says : (bs : NetBranches) (a : Bounds) (r : Range) → Is r a → Says g (branch_parts bs) (Is (cases_range g r bs)) (checked_cases g a bs)
    cases-says no_net_branches a r h = (h, (refl, refl))
    cases-says (net_branches c e bs) a r h =
        subst (λ t. Says g (branch_parts (net_branches c e bs)) (Is t) (checked_cases g a (net_branches c e bs))) (cases-join g bs (range_of g e) r)
        (then-says g (parts c) (parts e ++ branch_parts bs) (Is (range_of g c)) (Is (cases_range g (joined (range_of g e) r) bs)) (checked g c) (λ x. checked g e >>= λ b. checked_cases g (join_bounds b a) bs)
        (checked-says c) (λ x i. then-says g (parts e) (branch_parts bs) (Is (range_of g e)) (Is (cases_range g (joined (range_of g e) r) bs)) (checked g e) (λ b. checked_cases g (join_bounds b a) bs)
        (checked-says e) (λ b k. cases-says bs (join_bounds b a) (joined (range_of g e) r) (ap-two joined k.0 h.0, join-narrow b a k.1 h.1))))

-- ---- what is told

pub range-told : (g : Ranges) (e : NetExpr) (r : Result Bounds WidthErr) → r ≡ checked g e → IfOk r (λ a. as_range a ≡ range_of g e)
range-told g e (Ok a) h = (subst (Says g (parts e) (Is (range_of g e))) (sym h) (checked-says g e)).0.0
range-told g e (Err x) h = tt

pub divides-told : (g : Ranges) (e : NetExpr) (r : Result Bounds WidthErr) → r ≡ checked g e → IfOk r (λ a. divides g e ≡ true)
divides-told g e (Ok a) h = (subst (Says g (parts e) (Is (range_of g e))) (sym h) (checked-says g e)).1.0
divides-told g e (Err x) h = tt

pub narrow-told : (g : Ranges) (e : NetExpr) (r : Result Bounds WidthErr) → r ≡ checked g e → IfOk r (λ a. is_narrow_expr g e ≡ true)
narrow-told g e (Ok a) h = (subst (Says g (parts e) (Is (range_of g e))) (sym h) (checked-says g e)).1.1
narrow-told g e (Err x) h = tt

pub has-fault : (g : Ranges) (e : NetExpr) (x : WidthErr) → FaultIn g (parts e) x → HasFault g e x
has-fault g e (ZeroDivisor at) f = (f.2.0, flat_map-member own_divisors f.0 (parts e) f.2.0 f.1 f.2.1, f.2.2, f.2.3)
has-fault g e (TooWide at) f = (f.0, f.1, f.2.0, f.2.1)

pub fault-told : (g : Ranges) (e : NetExpr) (r : Result Bounds WidthErr) → r ≡ checked g e → IfErr r (HasFault g e)
fault-told g e (Ok a) h = tt
fault-told g e (Err x) h = has-fault g e x (subst (Says g (parts e) (Is (range_of g e))) (sym h) (checked-says g e))
