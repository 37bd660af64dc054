-- The exact scan is a run of first steps of each class.
use Rattle.std.proofs.Common.{◌≡◌, ℕ, zero, suc, ℤ, List, [], ◌∷◌, ◌++◌, Some, None, refl, sym, ◌∙◌, ap, subst, inl, inr}
use Rattle.std.specs.Prelude.{unwrap_or, IsTrue}
use Rattle.cif_system.specs.Words.{Member}
use Rattle.cif_system.specs.System.{Class, con, unc, System, State}
use Rattle.cif_system.specs.Step.{is_of}
use Rattle.cif_system.specs.Choices.{first_step}
use Rattle.cif_system.specs.Scan.{with_inputs, fire, fire_all, of_class, rounds, exact_scan, FirstRun, ScanRunsFirstSteps}
use Rattle.cif_system.proofs.ScanLaws.{of_class-is}

record Fires (m : System) (k : Class) (s next : State) : Type 0 where
  fired : List ℕ
  run : FirstRun m k s fired next

run-append : (m : System) (k : Class) (s mid next : State) (xs ys : List ℕ) → FirstRun m k s xs mid → FirstRun m k mid ys next → FirstRun m k s (xs ++ ys) next
run-append m k s mid next [] ys r q = subst (λ t. FirstRun m k t ys next) r q
run-append m k s mid next (x ∷ xs) ys r q = (r.0, r.1, r.2, run-append m k r.0 mid next xs ys r.3 q)

fire_all-fires : (m : System) (k : Class) (s : State) (es : List ℕ) → ((e : ℕ) → Member e es → IsTrue (is_of m k e)) → Fires m k s (fire_all m s es)
fire_all-fires m k s [] all = record { fired = []; run = refl }
fire_all-fires m k s (e ∷ es) all =
    let rest = fire_all-fires m k (fire m s e) es (λ i w. all i (inr w)) in
    (elim (first_step m s e) as (λ o. first_step m s e ≡ o → Fires m k s (fire_all m s (e ∷ es))) [
      | None ↦ λ h.
          let same : fire m s e ≡ s = ap (λ o. unwrap_or o s) h in
          record { fired = rest.fired; run = subst (λ t. FirstRun m k t rest.fired (fire_all m (fire m s e) es)) same rest.run }
      | Some next ↦ λ h.
          let same : fire m s e ≡ next = ap (λ o. unwrap_or o s) h in
          record { fired = e ∷ rest.fired; run = (fire m s e, all e (inl refl), h ∙ ap Some (sym same), rest.run) }
    ]) refl

rounds-fire : (m : System) (k : Class) (n : ℕ) (s : State) → Fires m k s (rounds m k n s)
rounds-fire m k zero s = record { fired = []; run = refl }
rounds-fire m k (suc n) s =
    let first = fire_all-fires m k s (of_class m k) (of_class-is m k) in
    let rest = rounds-fire m k n (fire_all m s (of_class m k)) in
    record { fired = first.fired ++ rest.fired; run = run-append m k s (fire_all m s (of_class m k)) (rounds m k (suc n) s) first.fired rest.fired first.run rest.run }

pub exact_scan-runs : (m : System) (s : State) (row : List ℤ) (U C : ℕ) → ScanRunsFirstSteps m s row (exact_scan m s row U C)
exact_scan-runs m s row U C =
    let a = rounds-fire m unc U (with_inputs s row) in
    let b = rounds-fire m con C (rounds m unc U (with_inputs s row)) in
    record { middle = rounds m unc U (with_inputs s row); uncontrollable = a.fired; first = a.run; controllable = b.fired; second = b.run }
