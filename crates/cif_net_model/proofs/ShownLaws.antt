-- In a plain net a value that the guard of an edge shows lies in the range of its target.
use Rattle.std.proofs.Common.{◌≡◌, ℕ, suc, ◌+◌, ℤ, pos, Bool, true, false, not, ◌&&◌, ◌||◌, IsTrue, List, [], ◌∷◌, length, Option, Some, None, refl, ◌∙◌, ap, subst, slice_get, slice_index_or, if◌then◌else◌, arith}
use Rattle.std.specs.List.{list_any, enumerate_from, AllByRecursion}
use Rattle.std.proofs.lemmas.Int.{ints}
use Rattle.cif_base.specs.declared.types.Ty.{Ty}
use Rattle.cif_system.specs.System.{Range, State, IsState, in_range}
use Rattle.cif_system.specs.Words.{Member}
use Rattle.cif_net_expr.specs.Tree.{NetExpr, net_expr, NetForm}
use Rattle.cif_net_model.specs.Net.{NetEdge, NetStored, Net}
use Rattle.cif_net_model.specs.Unfolding.{at_or}
use Rattle.cif_net_model.specs.Value.{net_value}
use Rattle.cif_net_model.specs.Meaning.{type_range, alg_values, value_in, true_in, system_of_net}
use Rattle.cif_net_model.specs.Interval.{range_of, declared_ranges, stored_range}
use Rattle.cif_net_model.specs.Facts.{channel_of}
use Rattle.cif_net_model.specs.Reads.{Read, a_var, an_input}
use Rattle.cif_net_model.specs.Shown.{conjuncts, is_the, narrowed_all, narrowed, is_int_type, guarded_ranges, channel_range, is_empty, is_within, some_empty, targeted_shown}
use Rattle.cif_net_model.specs.Rules.{evaluated, is_plain}
use Rattle.cif_net_model.proofs.Orders.{Lies, lies-from_test, test-from_lies}
use Rattle.cif_net_model.proofs.Passing.{and-left, and-right}
use Rattle.cif_net_model.proofs.Inside.{inside-self}
use Rattle.cif_net_model.proofs.IntervalLaws.{Fit, fits}
use Rattle.cif_net_model.proofs.PlainLaws.{fit-at, never, plain-expr}
use Rattle.cif_net_model.proofs.GuardLaws.{Holds, conjuncts-hold, alone-var, alone-input, narrowed_all-fits}

picked : (t : Bool) (a d : Range) (z : ℤ) → Fit a d z → Fit d d z → Fit (if t then a else d) d z
picked true a d z h i = h
picked false a d z h i = i

or-last : (a b c : Bool) → a ≡ false → b ≡ false → (a || b || c) ≡ true → c ≡ true
or-last false false c p q h = h
or-last true b c p q h = absurd cc
or-last false true c p q h = absurd cc

and-false : (a b : Bool) → b ≡ false → (a && b) ≡ false
and-false true b h = h
and-false false b h = refl

-- a test that no numbered element passes
none-passes : (test : ℕ × NetStored → Bool) (vs : List NetStored) (i : ℕ) → ((j k : ℕ) (w : NetStored) → j ≡ i + k → slice_get vs k ≡ Some w → test (j, w) ≡ false) → list_any test (enumerate_from i vs) ≡ false
none-passes test [] i h = refl
none-passes test (v ∷ vs) i h =
    let p : test (i, v) ≡ false = h i 0 v (omega arith) refl in
    let q : list_any test (enumerate_from (i + 1) vs) ≡ false = none-passes test vs (i + 1) (λ j k w e g. h j (suc k) w (omega (arith, e)) g) in
    ap (λ b. b || list_any test (enumerate_from (i + 1) vs)) p ∙ q

-- a range that holds a number is not empty
not-empty : (a : Range) (z : ℤ) → Lies a z → is_empty a ≡ false
not-empty a z h = grind (arith, ints)

within-lies : (a b : Range) (z : ℤ) → is_within a b ≡ true → Lies a z → Lies b z
within-lies a b z h i = grind (arith, ints)

module _ (n : Net) (s : State) (x : NetEdge) (z : ℤ) (plain : is_plain n ≡ true) (state : IsState (system_of_net n) s) (guard : IsTrue (true_in n s x.guard))
    (received : IsTrue (in_range (channel_range (channel_of n x.event)) z)) where
  -- in the guard nothing is received
  abbrev first : ℕ → ℤ
  first = at_or (pos 0) (alg_values n s (pos 0) (length n.algs))

  held : AllByRecursion (Holds first s (pos 0)) (conjuncts x.guard)
  held = conjuncts-hold first s (pos 0) x.guard guard

  stored-fits : (v : Read) (y : ℤ) → ((f : NetForm) (at : ℕ) → is_the v (net_expr f at) ≡ true → net_value first s (pos 0) (net_expr f at) ≡ y) → (o : Option NetStored) → Lies (stored_range o) y → Fit (narrowed x.guard v o) (stored_range o) y
  stored-fits v y alone None h = (h, inside-self (stored_range None))
  stored-fits v y alone (Some w) h =
      let own : Fit (type_range w.type_of) (type_range w.type_of) y = (h, inside-self (type_range w.type_of)) in
      picked (is_int_type w.type_of) (narrowed_all v (conjuncts x.guard) (type_range w.type_of)) (type_range w.type_of) y
      (narrowed_all-fits first s (pos 0) v y (type_range w.type_of) alone (conjuncts x.guard) (type_range w.type_of) held own) own

  vars-fit : (k : ℕ) → Fit (narrowed x.guard (a_var k) (slice_get n.vars k)) (stored_range (slice_get n.vars k)) (slice_index_or s.vals k (pos 0))
  vars-fit k = stored-fits (a_var k) (slice_index_or s.vals k (pos 0)) (alone-var first s (pos 0) k) (slice_get n.vars k) (fit-at n.vars s.vals k state.values)

  inputs-fit : (k : ℕ) → Fit (narrowed x.guard (an_input k) (slice_get n.inputs k)) (stored_range (slice_get n.inputs k)) (slice_index_or s.ins k (pos 0))
  inputs-fit k = stored-fits (an_input k) (slice_index_or s.ins k (pos 0)) (alone-input first s (pos 0) k) (slice_get n.inputs k) (fit-at n.inputs s.ins k state.inputs)

  no-var-empty : (j k : ℕ) (w : NetStored) → j ≡ 0 + k → slice_get n.vars k ≡ Some w → (is_int_type w.type_of && is_empty (narrowed x.guard (a_var j) (Some w))) ≡ false
  no-var-empty j k w e g =
      let f : k ≡ j = omega (arith, e) in
      let at : slice_get n.vars j ≡ Some w = subst (λ i. slice_get n.vars i ≡ Some w) f g in
      let fit : Fit (narrowed x.guard (a_var j) (Some w)) (stored_range (Some w)) (slice_index_or s.vals j (pos 0)) = subst (λ o. Fit (narrowed x.guard (a_var j) o) (stored_range o) (slice_index_or s.vals j (pos 0))) at (vars-fit j) in
      and-false (is_int_type w.type_of) (is_empty (narrowed x.guard (a_var j) (Some w))) (not-empty (narrowed x.guard (a_var j) (Some w)) (slice_index_or s.vals j (pos 0)) fit.0)

  no-input-empty : (j k : ℕ) (w : NetStored) → j ≡ 0 + k → slice_get n.inputs k ≡ Some w → (is_int_type w.type_of && is_empty (narrowed x.guard (an_input j) (Some w))) ≡ false
  no-input-empty j k w e g =
      let f : k ≡ j = omega (arith, e) in
      let at : slice_get n.inputs j ≡ Some w = subst (λ i. slice_get n.inputs i ≡ Some w) f g in
      let fit : Fit (narrowed x.guard (an_input j) (Some w)) (stored_range (Some w)) (slice_index_or s.ins j (pos 0)) = subst (λ o. Fit (narrowed x.guard (an_input j) o) (stored_range o) (slice_index_or s.ins j (pos 0))) at (inputs-fit j) in
      and-false (is_int_type w.type_of) (is_empty (narrowed x.guard (an_input j) (Some w))) (not-empty (narrowed x.guard (an_input j) (Some w)) (slice_index_or s.ins j (pos 0)) fit.0)

  none-empty : some_empty n x ≡ false
  none-empty =
      let q = none-passes (λ (v : ℕ × NetStored). is_int_type v.1.type_of && is_empty (narrowed x.guard (an_input v.0) (Some v.1))) n.inputs 0 no-input-empty in
      ap (λ b. b || list_any (λ (v : ℕ × NetStored). is_int_type v.1.type_of && is_empty (narrowed x.guard (an_input v.0) (Some v.1))) (enumerate_from 0 n.inputs))
      (none-passes (λ (v : ℕ × NetStored). is_int_type v.1.type_of && is_empty (narrowed x.guard (a_var v.0) (Some v.1))) n.vars 0 no-var-empty) ∙ q

  pub value-lies : (e : NetExpr) → Member (record { value = e; received = channel_range (channel_of n x.event) }) (evaluated n) → Lies (range_of (guarded_ranges n x) e) (value_in n s z e)
  value-lies e m =
      let one = plain-expr n (record { value = e; received = channel_range (channel_of n x.event) }) plain m in
      (fits (guarded_ranges n x) (declared_ranges n (channel_range (channel_of n x.event))) (at_or (pos 0) (alg_values n s z (length n.algs))) s z (λ k. false)
      vars-fit inputs-fit (λ k h. never h) (lies-from_test (channel_range (channel_of n x.event)) z received, inside-self (channel_range (channel_of n x.event)))
      e (and-left _ _ (and-left _ _ one)) (and-right _ _ (and-left _ _ one))).0

  pub shown-lies : (t : Ty) (e : NetExpr) → Member (record { value = e; received = channel_range (channel_of n x.event) }) (evaluated n) → is_int_type t ≡ true → targeted_shown n x (Some t, e) ≡ true → IsTrue (in_range (type_range t) (value_in n s z e))
  shown-lies t e m i h =
      test-from_lies (type_range t) (value_in n s z e)
      (within-lies (range_of (guarded_ranges n x) e) (type_range t) (value_in n s z e)
      (or-last (not (is_int_type t)) (some_empty n x) (is_within (range_of (guarded_ranges n x) e) (type_range t)) (ap not i) none-empty h)
      (value-lies e m))
