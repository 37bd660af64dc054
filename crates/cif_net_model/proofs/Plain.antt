-- An expression that has a kind, names no algebraic variable, divides by no 0 and stays in 64 bits is safe.
use Rattle.std.proofs.Common.{◌≡◌, ℕ, zero, suc, ℤ, pos, Bool, true, false, IsTrue, List, [], ◌∷◌, ◌++◌, Some, length, inl, inr, refl, sym, subst, slice_get, slice_index_or, arith}
use Rattle.std.specs.Prelude.{Option}
use Rattle.std.specs.List.{list_all, AllByRecursion}
use Rattle.std.proofs.lemmas.Int.{ints}
use Rattle.cif_base.specs.declared.types.Ty.{Ty}
use Rattle.cif_system.specs.System.{Range, State, IsState, in_range}
use Rattle.cif_system.specs.Words.{Member}
use Rattle.cif_net_expr.specs.Tree.{MulOp, times, divided, modulo, NetExpr, net_expr, NetForm, n_truth, n_number, n_loc, n_var, n_input, n_alg, n_received, n_minus, n_plus, n_not, n_abs, n_min, n_max, n_sum, n_product, n_compare, n_and, n_or, n_implies, n_iff, n_if, NetExprs, no_net_exprs, net_exprs, NetTerms, no_net_terms, net_terms, NetFactors, no_net_factors, net_factors, NetBranches, no_net_branches, net_branches}
use Rattle.cif_net_model.specs.Net.{NetStored, Net}
use Rattle.cif_net_model.specs.Value.{added, multiplied, net_sum, net_product}
use Rattle.cif_net_model.specs.Meaning.{alg_values, system_of_net, type_range}
use Rattle.cif_net_model.specs.Unfolding.{at_or}
use Rattle.cif_net_model.specs.Interval.{truths, declared_ranges, interval, range_of, stored_range}
use Rattle.cif_net_model.specs.Kinds.{Kind, bool_kind, int_kind, fits, form_fits, terms_fit, factors_fit, all_fit, branches_fit}
use Rattle.cif_net_model.specs.Facts.{literals_fit, stored_stands, is_net}
use Rattle.cif_net_model.specs.Reads.{Read, alg_passes, names_in, form_names, term_names, factor_names, list_names, branch_names}
use Rattle.cif_net_model.specs.Parts.{parts, form_parts, list_parts, branch_parts, sum_parts, product_parts, add_term, add_factor, is_narrow, part_divides}
use Rattle.cif_net_model.specs.Rules.{Evaluated, evaluated, is_plain_expr, is_plain}
use Rattle.cif_net_model.proofs.Orders.{Lies, lies-from_test}
use Rattle.cif_net_model.proofs.Corners.{CanMultiply, not-zero}
use Rattle.cif_net_model.proofs.Passing.{and-left, and-right, both-pass, all-member, each-member, last-divides}
use Rattle.cif_net_model.proofs.PlainLaws.{never, fit-at, plain-expr}
use Rattle.cif_net_model.proofs.PartLaws.{parts_hold}
use Rattle.cif_net_model.proofs.ValueLaws.{all-parts}
use Rattle.cif_net_model.proofs.IntervalLaws.{holds}
use Rattle.cif_net_model.proofs.KindLaws.{value-kind}
use Rattle.cif_net_model.proofs.Sides.{sides-fit, number-small}
use Rattle.cif_net_model.specs.Safe.{Setting, value_at, setting_in, IsTruth, HasBits, CanDivide, IsSafe, IsSafeForm, AreSafeTerms, AreSafeFactors, AreSafeTruths, AreSafeBranches}

-- ---- tests

truth-lies : (z : ℤ) → Lies truths z → IsTruth z
truth-lies z h = grind (arith, ints)

can-divide : (op : MulOp) (a : Range) (z : ℤ) → CanMultiply op a → Lies a z → CanDivide op z
can-divide times a z c h = tt
can-divide divided a z c h = let k = not-zero a z c h in grind (arith, ints)
can-divide modulo a z c h = let k = not-zero a z c h in grind (arith, ints)

stored-literals : (vs : List NetStored) → list_all stored_stands vs ≡ true → (k : ℕ) (w : NetStored) → slice_get vs k ≡ Some w → literals_fit w.type_of w.literals ≡ true
stored-literals [] h k w e = absurd cc
stored-literals (u ∷ us) h zero w e = let same : u ≡ w = cc in subst (λ (t : NetStored). literals_fit t.type_of t.literals ≡ true) same (and-right _ _ (and-left _ _ (and-left _ _ h)))
stored-literals (u ∷ us) h (suc k) w e = stored-literals us (and-right _ _ h) k w e

-- one term or factor more

sum-more : (x : Setting) (z : ℤ) (es : NetTerms) (m : Bool) (e : NetExpr) → added m (net_sum x.algs x.state x.received z es) (value_at x e) ≡ net_sum x.algs x.state x.received z (add_term es m e)
sum-more x z no_net_terms m e = refl
sum-more x z (net_terms o d ds) m e = sum-more x (added o z (value_at x d)) ds m e

product-more : (x : Setting) (z : ℤ) (es : NetFactors) (op : MulOp) (e : NetExpr)
    → multiplied op (net_product x.algs x.state x.received z es) (value_at x e) ≡ net_product x.algs x.state x.received z (add_factor es op e)
product-more x z no_net_factors op e = refl
product-more x z (net_factors o d ds) op e = product-more x (multiplied o z (value_at x d)) ds op e

-- ---- expressions

module _ (n : Net) (R : Range) (x : Setting) (r : Option Ty)
    (vars : (k : ℕ) → Lies (stored_range (slice_get n.vars k)) (slice_index_or x.state.vals k (pos 0)))
    (inputs : (k : ℕ) → Lies (stored_range (slice_get n.inputs k)) (slice_index_or x.state.ins k (pos 0)))
    (received : Lies R x.received)
    (typed : (t : Ty) → r ≡ Some t → Lies (type_range t) x.received)
    (var-literals : (k : ℕ) (w : NetStored) → slice_get n.vars k ≡ Some w → literals_fit w.type_of w.literals ≡ true)
    (input-literals : (k : ℕ) (w : NetStored) → slice_get n.inputs k ≡ Some w → literals_fit w.type_of w.literals ≡ true) where
  -- of the names of an expression
  abbrev NoAlg : List Read → Type 0
  NoAlg qs = list_all (alg_passes (λ k. false)) qs ≡ true

  -- of the parts of an expression
  abbrev Divides : List NetExpr → Type 0
  Divides ps = list_all (part_divides (declared_ranges n R)) ps ≡ true

  abbrev Bits : List NetExpr → Type 0
  Bits ps = AllByRecursion (λ p. HasBits (value_at x p)) ps

  lies : (e : NetExpr) → NoAlg (names_in e) → Divides (parts e) → Lies (range_of (declared_ranges n R) e) (value_at x e)
  lies = holds (declared_ranges n R) x.algs x.state x.received (λ k. false) vars inputs (λ k h. never h) received

  truth : (e : NetExpr) → NoAlg (names_in e) → fits n r bool_kind e ≡ true → IsTruth (value_at x e)
  truth e a h = truth-lies (value_at x e) (value-kind n x.algs x.state r x.received vars inputs typed var-literals input-literals bool_kind refl e a h)

  -- what is asked of two lists together is asked of each
  no-algs : (ps qs : List Read) → NoAlg (ps ++ qs) → NoAlg ps × NoAlg qs
  no-algs = both-pass (alg_passes (λ k. false))

  divide-both : (ps qs : List NetExpr) → Divides (ps ++ qs) → Divides ps × Divides qs
  divide-both = both-pass (part_divides (declared_ranges n R))

  bits-both : (ps qs : List NetExpr) → Bits (ps ++ qs) → Bits ps × Bits qs
  bits-both = all-parts (λ p. HasBits (value_at x p))

  mutual
    pub safe : (k : Kind) (e : NetExpr) → NoAlg (names_in e) → Divides (parts e) → Bits (parts e) → fits n r k e ≡ true → IsSafe x e
    safe k (net_expr f at) a d b h = safe-form k at f a d b h

    safe-form : (k : Kind) (at : ℕ) (f : NetForm) → NoAlg (form_names f) → Divides (form_parts at f) → Bits (form_parts at f) → form_fits n r k f ≡ true → IsSafeForm x f
    safe-form k at (n_truth t) a d b h = tt
    safe-form k at (n_number z) a d b h = number-small k z h
    safe-form k at (n_loc i p) a d b h = tt
    safe-form k at (n_var i) a d b h = tt
    safe-form k at (n_input i) a d b h = tt
    safe-form k at (n_alg i) a d b h = tt
    safe-form k at n_received a d b h = tt
    safe-form k at (n_minus e) a d b h = (safe int_kind e a d b.1 (and-right _ _ h), b.0)
    safe-form k at (n_plus e) a d b h = safe int_kind e a d b.1 (and-right _ _ h)
    safe-form k at (n_not e) a d b h = (safe bool_kind e a d b (and-right _ _ h), truth e a (and-right _ _ h))
    safe-form k at (n_abs e) a d b h = (safe int_kind e a d b.1 (and-right _ _ h), b.0)
    safe-form k at (n_min p q) a d b h =
        let aa = no-algs (names_in p) (names_in q) a in let dd = divide-both (parts p) (parts q) d in let bb = bits-both (parts p) (parts q) b.1 in
        (safe int_kind p aa.0 dd.0 bb.0 (and-right _ _ (and-left _ _ h)), safe int_kind q aa.1 dd.1 bb.1 (and-right _ _ h))
    safe-form k at (n_max p q) a d b h =
        let aa = no-algs (names_in p) (names_in q) a in let dd = divide-both (parts p) (parts q) d in let bb = bits-both (parts p) (parts q) b.1 in
        (safe int_kind p aa.0 dd.0 bb.0 (and-right _ _ (and-left _ _ h)), safe int_kind q aa.1 dd.1 bb.1 (and-right _ _ h))
    safe-form k at (n_sum e es) a d b h =
        let aa = no-algs (names_in e) (term_names es) a in
        let dd = divide-both (parts e) (sum_parts at e no_net_terms es) d in
        let bb = bits-both (parts e) (sum_parts at e no_net_terms es) b in
        (safe int_kind e aa.0 dd.0 bb.0 (and-right _ _ (and-left _ _ h)), safe-terms at e no_net_terms es aa.1 dd.1 bb.1 (and-right _ _ h))
    safe-form k at (n_product e es) a d b h =
        let aa = no-algs (names_in e) (factor_names es) a in
        let dd = divide-both (parts e) (product_parts at e no_net_factors es) d in
        let bb = bits-both (parts e) (product_parts at e no_net_factors es) b in
        (safe int_kind e aa.0 dd.0 bb.0 (and-right _ _ (and-left _ _ h)), safe-factors at e no_net_factors es aa.1 dd.1 bb.1 (and-right _ _ h))
    safe-form k at (n_compare p op q) a d b h =
        let aa = no-algs (names_in p) (names_in q) a in let dd = divide-both (parts p) (parts q) d in let bb = bits-both (parts p) (parts q) b in
        let hh = sides-fit n r k op p q h in
        (safe hh.kind p aa.0 dd.0 bb.0 hh.left, safe hh.kind q aa.1 dd.1 bb.1 hh.right)
    safe-form k at (n_and es) a d b h = safe-truths es a d b (and-right _ _ h)
    safe-form k at (n_or es) a d b h = safe-truths es a d b (and-right _ _ h)
    safe-form k at (n_implies p q) a d b h =
        let aa = no-algs (names_in p) (names_in q) a in let dd = divide-both (parts p) (parts q) d in let bb = bits-both (parts p) (parts q) b in
        ((safe bool_kind p aa.0 dd.0 bb.0 (and-right _ _ (and-left _ _ h)), truth p aa.0 (and-right _ _ (and-left _ _ h))), (safe bool_kind q aa.1 dd.1 bb.1 (and-right _ _ h), truth q aa.1 (and-right _ _ h)))
    safe-form k at (n_iff p q) a d b h =
        let aa = no-algs (names_in p) (names_in q) a in let dd = divide-both (parts p) (parts q) d in let bb = bits-both (parts p) (parts q) b in
        (safe bool_kind p aa.0 dd.0 bb.0 (and-right _ _ (and-left _ _ h)), safe bool_kind q aa.1 dd.1 bb.1 (and-right _ _ h))
    safe-form k at (n_if bs e) a d b h =
        let aa = no-algs (branch_names bs) (names_in e) a in let dd = divide-both (branch_parts bs) (parts e) d in let bb = bits-both (branch_parts bs) (parts e) b.1 in
        (safe-branches k bs aa.0 dd.0 bb.0 (and-left _ _ h), safe k e aa.1 dd.1 bb.1 (and-right _ _ h))

    safe-terms : (at : ℕ) (first : NetExpr) (before es : NetTerms) → NoAlg (term_names es) → Divides (sum_parts at first before es) → Bits (sum_parts at first before es) → terms_fit n r es ≡ true
        → AreSafeTerms x (net_sum x.algs x.state x.received (value_at x first) before) es
    safe-terms at first before no_net_terms a d b h = tt
    safe-terms at first before (net_terms m e es) a d b h =
        let aa = no-algs (names_in e) (term_names es) a in
        let dd = divide-both (parts e) (sum_parts at first (add_term before m e) es) d in
        let bb = bits-both (parts e) (sum_parts at first (add_term before m e) es) b.1 in
        let more = sum-more x (value_at x first) before m e in (
          safe int_kind e aa.0 dd.0 bb.0 (and-left _ _ h),
          subst HasBits (sym more) b.0,
          subst (λ z. AreSafeTerms x z es) (sym more) (safe-terms at first (add_term before m e) es aa.1 dd.1 bb.1 (and-right _ _ h)),
        )

    safe-factors : (at : ℕ) (first : NetExpr) (before es : NetFactors) → NoAlg (factor_names es) → Divides (product_parts at first before es) → Bits (product_parts at first before es) → factors_fit n r es ≡ true
        → AreSafeFactors x (net_product x.algs x.state x.received (value_at x first) before) es
    safe-factors at first before no_net_factors a d b h = tt
    safe-factors at first before (net_factors op e es) a d b h =
        let aa = no-algs (names_in e) (factor_names es) a in
        let dd = divide-both (parts e) (product_parts at first (add_factor before op e) es) (and-right _ _ d) in
        let bb = bits-both (parts e) (product_parts at first (add_factor before op e) es) b.1 in
        let more = product-more x (value_at x first) before op e in
        let can = can-divide op (range_of (declared_ranges n R) e) (value_at x e) (last-divides (declared_ranges n R) before op e (and-left _ _ d)) (lies e aa.0 dd.0) in (
          safe int_kind e aa.0 dd.0 bb.0 (and-left _ _ h),
          can,
          subst HasBits (sym more) b.0,
          subst (λ z. AreSafeFactors x z es) (sym more) (safe-factors at first (add_factor before op e) es aa.1 dd.1 bb.1 (and-right _ _ h)),
        )

    safe-truths : (es : NetExprs) → NoAlg (list_names es) → Divides (list_parts es) → Bits (list_parts es) → all_fit n r es ≡ true → AreSafeTruths x es
    safe-truths no_net_exprs a d b h = tt
    safe-truths (net_exprs e es) a d b h =
        let aa = no-algs (names_in e) (list_names es) a in let dd = divide-both (parts e) (list_parts es) d in let bb = bits-both (parts e) (list_parts es) b in
        (safe bool_kind e aa.0 dd.0 bb.0 (and-left _ _ h), truth e aa.0 (and-left _ _ h), safe-truths es aa.1 dd.1 bb.1 (and-right _ _ h))

    safe-branches : (k : Kind) (bs : NetBranches) → NoAlg (branch_names bs) → Divides (branch_parts bs) → Bits (branch_parts bs) → branches_fit n r k bs ≡ true → AreSafeBranches x bs
    safe-branches k no_net_branches a d b h = tt
    safe-branches k (net_branches c e bs) a d b h =
        let aa = no-algs (names_in c) (names_in e ++ branch_names bs) a in let dd = divide-both (parts c) (parts e ++ branch_parts bs) d in let bb = bits-both (parts c) (parts e ++ branch_parts bs) b in
        let a2 = no-algs (names_in e) (branch_names bs) aa.1 in let d2 = divide-both (parts e) (branch_parts bs) dd.1 in let b2 = bits-both (parts e) (branch_parts bs) bb.1 in (
          safe bool_kind c aa.0 dd.0 bb.0 (and-left _ _ (and-left _ _ h)),
          truth c aa.0 (and-left _ _ (and-left _ _ h)),
          safe k e a2.0 d2.0 b2.0 (and-right _ _ (and-left _ _ h)),
          safe-branches k bs a2.1 d2.1 b2.1 (and-right _ _ h),
        )

-- ---- nets

from-members : (P : NetExpr → Type 0) (ps : List NetExpr) → ((p : NetExpr) → Member p ps → P p) → AllByRecursion P ps
from-members P [] h = tt
from-members P (p ∷ ps) h = (h p (inl refl), from-members P ps (λ q i. h q (inr i)))

inside : (a : Range) (v : ℤ) → is_narrow a ≡ true → Lies a v → HasBits v
inside a v h k = grind (arith, ints)

pub net-safe : (n : Net) (algs : ℕ → ℤ) (s : State) (y : Evaluated) (z : ℤ) (r : Option Ty) (k : Kind) → is_net n ≡ true → is_plain_expr n y ≡ true → IsState (system_of_net n) s → IsTrue (in_range y.received z)
    → ((t : Ty) → r ≡ Some t → IsTrue (in_range (type_range t) z)) → fits n r k y.value ≡ true → IsSafe (record { algs = algs; state = s; received = z }) y.value
net-safe n algs s y z r k net one state received typed h =
    let inputs : list_all stored_stands n.inputs ≡ true = and-right _ _ (and-left _ _ (and-left _ _ (and-left _ _ (and-left _ _ (and-left _ _ (and-left _ _ net)))))) in
    let vars : list_all stored_stands n.vars ≡ true = and-right _ _ (and-left _ _ (and-left _ _ (and-left _ _ (and-left _ _ (and-left _ _ net))))) in
    let x : Setting = record { algs = algs; state = s; received = z } in
    let each : AllByRecursion (λ p. Lies (interval n y.received p) (value_at x p)) (parts y.value) =
    parts_hold (declared_ranges n y.received) algs s z (λ i. false) (λ i. fit-at n.vars s.vals i state.values) (λ i. fit-at n.inputs s.ins i state.inputs) (λ i f. never f) (lies-from_test _ _ received)
    y.value (and-left _ _ (and-left _ _ one)) (and-right _ _ (and-left _ _ one)) in
    safe n y.received x r (λ i. fit-at n.vars s.vals i state.values) (λ i. fit-at n.inputs s.ins i state.inputs) (lies-from_test _ _ received)
    (λ t e. lies-from_test _ _ (typed t e)) (stored-literals n.vars vars) (stored-literals n.inputs inputs)
    k y.value (and-left _ _ (and-left _ _ one)) (and-right _ _ (and-left _ _ one))
    (from-members (λ p. HasBits (value_at x p)) (parts y.value) (λ p i.
    inside (interval n y.received p) (value_at x p) (all-member (λ q. is_narrow (interval n y.received q)) (parts y.value) p (and-right _ _ one) i)
    (each-member (λ q. Lies (interval n y.received q) (value_at x q)) (parts y.value) p each i))) h

pub plain-safe : (n : Net) (s : State) (y : Evaluated) (z : ℤ) (r : Option Ty) (k : Kind) → is_plain n ≡ true → IsState (system_of_net n) s → Member y (evaluated n) → IsTrue (in_range y.received z)
    → ((t : Ty) → r ≡ Some t → IsTrue (in_range (type_range t) z)) → fits n r k y.value ≡ true → IsSafe (setting_in n s z) y.value
plain-safe n s y z r k plain state m = net-safe n (at_or (pos 0) (alg_values n s z (length n.algs))) s y z r k (and-left _ _ (and-left _ _ (and-left _ _ plain))) (plain-expr n y plain m) state
