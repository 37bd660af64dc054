-- A run of first steps is a run, and runs and scans lead from states to states.
use Rattle.std.proofs.Common.{ℕ, ℤ, List, [], ◌∷◌, subst, sym}
use Rattle.cif_system.specs.System.{AllFit, Class, EndsInside, IsState, State, System, con, unc}
use Rattle.cif_system.specs.Step.{Run}
use Rattle.cif_system.specs.Scan.{FirstRun, ScanIsLegal, exact_scan, with_inputs}
use Rattle.cif_system.proofs.ScanLaws.{first_step-step, exact_scan-legal}
use Rattle.cif_system.proofs.StateLaws.{step-state}

-- a run of first steps is a run
pub first_run-run : (m : System) (k : Class) (s : State) (es : List ℕ) (next : State) → FirstRun m k s es next → Run m k s es next
first_run-run m k s [] next r = r
first_run-run m k s (e ∷ es) next r = (r.0, r.1, first_step-step m s e r.0 r.2, first_run-run m k r.0 es next r.3)

-- a run leads to a state
pub run-state : (m : System) → EndsInside m → (k : Class) (s : State) (es : List ℕ) (next : State) → IsState m s → Run m k s es next → IsState m next
run-state m ends k s [] next h r = subst (IsState m) (sym r) h
run-state m ends k s (e ∷ es) next h r = run-state m ends k r.0 es next (step-state m ends s e r.0 h r.2) r.3

-- a legal scan of a row that fits leads to a state
pub scan-state : (m : System) → EndsInside m → (s : State) (row : List ℤ) (next : State) (U C : ℕ) → IsState m s → AllFit m.inputs row → ScanIsLegal m s row next U C → IsState m next
scan-state m ends s row next U C h fit scan =
    let set : IsState m (with_inputs s row) = record { places = h.places; values = h.values; inputs = fit } in
    let middle = run-state m ends unc (with_inputs s row) scan.uncontrollable.fired scan.middle set scan.uncontrollable.run in
    run-state m ends con scan.middle scan.controllable.fired next middle scan.controllable.run

-- and so does the exact one
pub exact_scan-state : (m : System) → EndsInside m → (s : State) (row : List ℤ) (U C : ℕ) → IsState m s → AllFit m.inputs row → IsState m (exact_scan m s row U C)
exact_scan-state m ends s row U C h fit = scan-state m ends s row (exact_scan m s row U C) U C h fit (exact_scan-legal m s row U C)
