-- In a plain net the value of each evaluated expression, and of each part of one, lies in its interval and in 64 bits.
use Rattle.std.proofs.Common.{◌≡◌, ℕ, zero, suc, ℤ, pos, true, false, IsTrue, List, [], ◌∷◌, map, length, inl, inr, sym, subst, slice_get, slice_index_or, arith}
use Rattle.std.specs.List.{AllByRecursion}
use Rattle.std.proofs.lemmas.Int.{ints}
use Rattle.cif_base.specs.Bounds.{in_64_bits}
use Rattle.cif_system.specs.System.{Range, State, AllFit, IsState, in_range}
use Rattle.cif_system.specs.Words.{Member}
use Rattle.cif_net_expr.specs.Tree.{NetExpr}
use Rattle.cif_net_model.specs.Net.{NetStored, Net}
use Rattle.cif_net_model.specs.Unfolding.{at_or}
use Rattle.cif_net_model.specs.Meaning.{alg_values, stored_in, system_of_net, value_in}
use Rattle.cif_net_model.specs.Interval.{declared_ranges, interval, stored_range}
use Rattle.cif_net_model.specs.Parts.{parts, is_narrow}
use Rattle.cif_net_model.specs.Rules.{Evaluated, evaluated, is_plain_expr, is_plain}
use Rattle.cif_net_model.proofs.Orders.{Lies, lies-from_test, test-from_lies, point-holds}
use Rattle.cif_net_model.proofs.Passing.{and-left, and-right, all-member, each-member}
use Rattle.cif_net_model.proofs.IntervalLaws.{holds}
use Rattle.cif_net_model.proofs.PartLaws.{parts_hold}

-- the value at a number lies in its declared range, and past the end it is 0
pub fit-at : (vs : List NetStored) (zs : List ℤ) (k : ℕ) → AllFit (map stored_in vs) zs → Lies (stored_range (slice_get vs k)) (slice_index_or zs k (pos 0))
fit-at [] [] k h = point-holds (pos 0)
fit-at [] (z ∷ zs) k h = absurd h
fit-at (v ∷ vs) [] k h = absurd h
fit-at (v ∷ vs) (z ∷ zs) zero h = lies-from_test _ _ h.0
fit-at (v ∷ vs) (z ∷ zs) (suc k) h = fit-at vs zs k h.1

pub never : {A : Type 0} → false ≡ true → A
never h = absurd cc

pub plain-expr : (n : Net) (x : Evaluated) → is_plain n ≡ true → Member x (evaluated n) → is_plain_expr n x ≡ true
plain-expr n x h m = all-member (is_plain_expr n) (evaluated n) x (and-right _ _ (and-left _ _ (and-left _ _ h))) m

module _ (n : Net) (s : State) (x : Evaluated) (z : ℤ) (plain : is_plain n ≡ true) (state : IsState (system_of_net n) s) (m : Member x (evaluated n)) (received : IsTrue (in_range x.received z)) where
  one : is_plain_expr n x ≡ true
  one = plain-expr n x plain m

  whole : Lies (interval n x.received x.value) (value_in n s z x.value)
  whole = holds (declared_ranges n x.received) (at_or (pos 0) (alg_values n s z (length n.algs))) s z (λ k. false)
      (λ k. fit-at n.vars s.vals k state.values) (λ k. fit-at n.inputs s.ins k state.inputs) (λ k h. never h) (lies-from_test _ _ received)
      x.value (and-left _ _ (and-left _ _ one)) (and-right _ _ (and-left _ _ one))

  each : AllByRecursion (λ p. Lies (interval n x.received p) (value_in n s z p)) (parts x.value)
  each = parts_hold (declared_ranges n x.received) (at_or (pos 0) (alg_values n s z (length n.algs))) s z (λ k. false)
      (λ k. fit-at n.vars s.vals k state.values) (λ k. fit-at n.inputs s.ins k state.inputs) (λ k h. never h) (lies-from_test _ _ received)
      x.value (and-left _ _ (and-left _ _ one)) (and-right _ _ (and-left _ _ one))

  pub lies : (p : NetExpr) → Member p (x.value ∷ parts x.value) → IsTrue (in_range (interval n x.received p) (value_in n s z p))
  lies p (inl e) = subst (λ q. IsTrue (in_range (interval n x.received q) (value_in n s z q))) (sym e) (test-from_lies _ _ whole)
  lies p (inr i) = test-from_lies _ _ (each-member (λ p. Lies (interval n x.received p) (value_in n s z p)) (parts x.value) p each i)

  inside : (r : Range) (v : ℤ) → is_narrow r ≡ true → Lies r v → IsTrue (in_64_bits v)
  inside r v h k = grind (arith, ints)

  pub fits : (p : NetExpr) → Member p (parts x.value) → IsTrue (in_64_bits (value_in n s z p))
  fits p i =
      inside (interval n x.received p) (value_in n s z p) (all-member (λ q. is_narrow (interval n x.received q)) (parts x.value) p (and-right _ _ one) i)
      (each-member (λ p. Lies (interval n x.received p) (value_in n s z p)) (parts x.value) p each i)
