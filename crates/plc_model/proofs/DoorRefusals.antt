-- Each wrong program of the door breaks a promise, as one of its scans shows.
use Rattle.std.proofs.Common.{◌≡◌, ℕ, zero, suc, ◌+◌, ◌<◌, ◌≤◌, ◌⊎◌, ℤ, pos, false, true, List, [], ◌∷◌, length, Some, refl, sym, ap, subst, ◌∙◌, inl, inr, arith}
use Rattle.std.specs.Prelude.{IsTrue, nat_abs, slice_index_or}
use Rattle.std.specs.Fmt.{digits}
use Rattle.std.specs.List.{AllByRecursion}
use Rattle.cif_system.specs.Words.{Member}
use Rattle.cif_system.specs.System.{AllFit, Class, State, con, initial, outputs, unc}
use Rattle.cif_system.specs.Step.{Choice, Exhausted, Run, Step, after, makes_step}
use Rattle.cif_system.specs.Choices.{choices}
use Rattle.cif_system.specs.Scan.{FirstRun, ScanIsLegal, ScanRunsFirstSteps, with_inputs}
use Rattle.cif_system.proofs.Lists.{some-same}
use Rattle.cif_system.proofs.ChoiceLaws.{choices-listed, makes_step-agrees}
use Rattle.cif_system.proofs.ScanLaws.{first_step-step}
use Rattle.st_ast.specs.Tree.{Stms, no_stms, truth}
use Rattle.st_ast.specs.Values.{Memory, value_of}
use Rattle.st_ast.specs.Interface.{output_values}
use Rattle.st_ast.specs.Exec.{OutOfTurns, and_then, exec, repeated}
use Rattle.st_ast.specs.Scan.{start_memory, store_row, turns_of_scan, when_ended}
use Rattle.plc_model.specs.Face.{HasInterface, StateOf, Shows, AreInTypes, seen_values}
use Rattle.plc_model.specs.Scans.{Change, EndedScans, IsProgramOf, Leads, NeverFaults, RunsFirstSteps, ScansExactly, ScansLegally, ShowsOutputs, StaysTyped, memories}
use Rattle.plc_model.specs.Door.{closed, opened, locked, system, turned, unturned, door_at, face, variables, program_with, program, memory, unlatched, idle, hasty, misled, forgetful, stale, astray, endless, untyped, hidden, ajar}
use Rattle.plc_model.proofs.NameLaws.{false-true}
use Rattle.plc_model.proofs.FaceLaws.{one-state}
use Rattle.plc_model.proofs.ScanLaws.{exact-legal}
use Rattle.plc_model.proofs.DoorScans.{state-at}

-- ---- one scan

pub turned-scan : memories program (turned ∷ []) ≡ memory (pos 1) (pos 1) opened (pos opened) (pos 0) (pos 1) ∷ []
unfolding digits repeated
turned-scan = refl

pub unturned-scan : memories program (unturned ∷ []) ≡ memory (pos 0) (pos 0) locked (pos locked) (pos 0) (pos 2) ∷ []
unfolding digits repeated
unturned-scan = refl

-- how the scan of a row changes the initial state, from the memory after it
changes : (body : Stms) (R : Change) (row : List ℤ) (m : Memory) (t : State) → AllFit system.inputs row → memories (program_with body) (row ∷ []) ≡ m ∷ [] → StateOf face system (program_with body) m t
    → EndedScans face system (program_with body) R → R (initial system) row t
changes body R row m t fit are state scans =
    let l = subst (λ ms. Leads R (StateOf face system (program_with body)) (initial system) (row ∷ []) ms) are (scans (row ∷ []) (fit, tt)) in
    subst (R (initial system) row) (one-state face system (program_with body) m l.0 t l.2 state) l.1

-- how the scan of a second row changes the state after the first
changes-then : (body : Stms) (R : Change) (first row : List ℤ) (m n : Memory) (s t : State) → AllFit system.inputs first → AllFit system.inputs row
    → memories (program_with body) (first ∷ row ∷ []) ≡ m ∷ n ∷ [] → StateOf face system (program_with body) m s → StateOf face system (program_with body) n t
    → EndedScans face system (program_with body) R → R s row t
changes-then body R first row m n s t fit fits are state next scans =
    let l = subst (λ ms. Leads R (StateOf face system (program_with body)) (initial system) (first ∷ row ∷ []) ms) are (scans (first ∷ row ∷ []) (fit, (fits, tt))) in
    let rest = l.3 in
    subst (λ u. R u row t) (one-state face system (program_with body) m l.0 s l.2 state) (subst (R l.0 row) (one-state face system (program_with body) n rest.0 t rest.2 next) rest.1)

place-same : (j k : ℕ) (x y : ℤ) → door_at j x ≡ door_at k y → j ≡ k
place-same j k x y e = ap (λ (s : State). slice_index_or s.locs 0 0) e

number-same : (j k : ℕ) → pos j ∷ [] ≡ pos k ∷ [] → j ≡ k
number-same j k e = ap (λ zs. nat_abs (slice_index_or zs 0 (pos 0))) e

-- ---- steps of the door

abbrev opening : Choice
opening = Some 0 ∷ []

abbrev locking : Choice
locking = Some 1 ∷ []

record ByOne (s : State) (e : ℕ) (only : Choice) (next : State) : Type 0 where
  pub makes : IsTrue (makes_step system s e only)
  pub is_after : next ≡ after system s only

only-choice : (s : State) (e : ℕ) (next : State) (only : Choice) → choices system e ≡ only ∷ [] → Step system s e next → ByOne s e only next
only-choice s e next only are step = go (subst (Member step.choice) are (choices-listed system s e step.choice (makes_step-agrees system s e step.choice step.makes)))
  where
    go : Member step.choice (only ∷ []) → ByOne s e only next
    go (inl is) = record { makes = subst (λ ch. IsTrue (makes_step system s e ch)) is step.makes; is_after = step.is_after ∙ ap (after system s) is }
    go (inr none) = absurd none

-- where neither event has a step no run leads elsewhere
still : (s : State) → makes_step system s 0 opening ≡ false → makes_step system s 1 locking ≡ false → (k : Class) (es : List ℕ) (next : State) → Run system k s es next → next ≡ s
still s no_opening no_locking k [] next run = run
still s no_opening no_locking k (zero ∷ es) next run = false-true (makes_step system s 0 opening) no_opening (only-choice s 0 run.0 opening refl run.2).makes
still s no_opening no_locking k (suc zero ∷ es) next run = false-true (makes_step system s 1 locking) no_locking (only-choice s 1 run.0 locking refl run.2).makes
still s no_opening no_locking k (suc (suc e) ∷ es) next run = false-true false refl run.1

run-inputs : (k : Class) (s : State) (es : List ℕ) (next : State) → Run system k s es next → next.ins ≡ s.ins
run-inputs k s [] next run = ap (λ (t : State). t.ins) run
run-inputs k s (e ∷ es) next run = run-inputs k run.0 es next run.3 ∙ ap (λ (t : State). t.ins) run.2.is_after

first-run : (k : Class) (s : State) (es : List ℕ) (next : State) → FirstRun system k s es next → Run system k s es next
first-run k s [] next run = run
first-run k s (e ∷ es) next run = (run.0, run.1, first_step-step system s e run.0 run.2, first-run k run.0 es next run.3)

-- ---- the latch

unlatched-state : StateOf face system unlatched (memory (pos 1) (pos 0) locked (pos locked) (pos 0) (pos 2)) (door_at locked (pos 0))
unlatched-state = state-at unlatched.body (pos 1) (pos 0) locked (pos locked) (pos 0) (pos 2) (omega arith) refl

pub unlatched-scan : memories unlatched (turned ∷ []) ≡ memory (pos 1) (pos 0) locked (pos locked) (pos 0) (pos 2) ∷ []
unfolding digits repeated
unlatched-scan = refl

-- no run loses the row
key-lost : (es fs : List ℕ) (middle : State) → Run system unc (with_inputs (initial system) turned) es middle → Run system con middle fs (door_at locked (pos 0)) → ⊥
key-lost es fs middle first second =
    let same : 0 ≡ 1 = number-same 0 1 (run-inputs con middle fs (door_at locked (pos 0)) second ∙ run-inputs unc (with_inputs (initial system) turned) es middle first) in
    omega (arith, same)

pub unlatched-legal : (U C : ℕ) → ScansLegally U C face system unlatched → ⊥
unlatched-legal U C scans =
    let legal = changes unlatched.body (λ s row t. ScanIsLegal system s row t U C) turned (memory (pos 1) (pos 0) locked (pos locked) (pos 0) (pos 2)) (door_at locked (pos 0)) (refl, tt) unlatched-scan unlatched-state scans.1 in
    key-lost legal.uncontrollable.fired legal.controllable.fired legal.middle legal.uncontrollable.run legal.controllable.run

pub unlatched-exact : (U C : ℕ) → ScansExactly U C face system unlatched → ⊥
unlatched-exact U C scans = unlatched-legal U C (exact-legal face system unlatched U C scans)

pub unlatched-first : RunsFirstSteps face system unlatched → ⊥
unlatched-first scans =
    let runs = changes unlatched.body (ScanRunsFirstSteps system) turned (memory (pos 1) (pos 0) locked (pos locked) (pos 0) (pos 2)) (door_at locked (pos 0)) (refl, tt) unlatched-scan unlatched-state scans in
    key-lost runs.uncontrollable runs.controllable runs.middle (first-run unc (with_inputs (initial system) turned) runs.uncontrollable runs.middle runs.first)
    (first-run con runs.middle runs.controllable (door_at locked (pos 0)) runs.second)

-- ---- the order and the bounds

-- the door is open after a run of uncontrollable events with the key turned
opens-first : (U : ℕ) (middle : State) (fired : List ℕ) → 0 < U → Run system unc (door_at closed (pos 1)) fired middle → (U ≤ length fired) ⊎ Exhausted system unc middle → middle ≡ door_at opened (pos 1)
opens-first U middle [] some run (inl enough) = absurd (omega (arith, some, enough))
opens-first U middle [] some run (inr exhausted) =
    absurd (subst (Exhausted system unc) run exhausted 0 (door_at opened (pos 1)) refl (record { choice = opening; makes = refl; is_after = refl }))
opens-first U middle (zero ∷ es) some run enough =
    let first : run.0 ≡ door_at opened (pos 1) = (only-choice (door_at closed (pos 1)) 0 run.0 opening refl run.2).is_after in
    still (door_at opened (pos 1)) refl refl unc es middle (subst (λ s. Run system unc s es middle) first run.3)
opens-first U middle (suc zero ∷ es) some run enough = false-true false refl run.1
opens-first U middle (suc (suc e) ∷ es) some run enough = false-true false refl run.1

legal-opens : (U C : ℕ) (next : State) → 0 < U → ScanIsLegal system (initial system) turned next U C → next ≡ door_at opened (pos 1)
legal-opens U C next some legal =
    let middle = opens-first U legal.middle legal.uncontrollable.fired some legal.uncontrollable.run legal.uncontrollable.enough in
    still (door_at opened (pos 1)) refl refl con legal.controllable.fired next (subst (λ s. Run system con s legal.controllable.fired next) middle legal.controllable.run)

-- the door stays closed in a run of uncontrollable events without the key
stays-closed : (es : List ℕ) (next : State) → Run system unc (door_at closed (pos 0)) es next → next ≡ door_at closed (pos 0)
stays-closed [] next run = run
stays-closed (zero ∷ es) next run = false-true false refl (only-choice (door_at closed (pos 0)) 0 run.0 opening refl run.2).makes
stays-closed (suc zero ∷ es) next run = false-true false refl run.1
stays-closed (suc (suc e) ∷ es) next run = false-true false refl run.1

-- after a run of controllable events the closed door is locked, or none fired
locks-or-none : (fired : List ℕ) (next : State) → Run system con (door_at closed (pos 0)) fired next → (fired ≡ []) ⊎ (next ≡ door_at locked (pos 0))
locks-or-none [] next run = inl refl
locks-or-none (zero ∷ es) next run = false-true false refl run.1
locks-or-none (suc zero ∷ es) next run =
    let first : run.0 ≡ door_at locked (pos 0) = (only-choice (door_at closed (pos 0)) 1 run.0 locking refl run.2).is_after in
    inr (still (door_at locked (pos 0)) refl refl con es next (subst (λ s. Run system con s es next) first run.3))
locks-or-none (suc (suc e) ∷ es) next run = false-true false refl run.1

locks-first : (C : ℕ) (fired : List ℕ) (next : State) → 0 < C → Run system con (door_at closed (pos 0)) fired next → (C ≤ length fired) ⊎ Exhausted system con next → next ≡ door_at locked (pos 0)
locks-first C fired next some run enough = go (locks-or-none fired next run) enough
  where
    go : (fired ≡ []) ⊎ (next ≡ door_at locked (pos 0)) → (C ≤ length fired) ⊎ Exhausted system con next → next ≡ door_at locked (pos 0)
    go (inr is) enough = is
    go (inl none) (inl enough) = let short : length fired ≡ 0 = ap length none in absurd (omega (arith, some, enough, short))
    go (inl none) (inr exhausted) =
        let same : next ≡ door_at closed (pos 0) = subst (λ es. Run system con (door_at closed (pos 0)) es next) none run in
        absurd (subst (Exhausted system con) same exhausted 1 (door_at locked (pos 0)) refl (record { choice = locking; makes = refl; is_after = refl }))

legal-locks : (U C : ℕ) (next : State) → 0 < C → ScanIsLegal system (initial system) unturned next U C → next ≡ door_at locked (pos 0)
legal-locks U C next some legal =
    let middle = stays-closed legal.uncontrollable.fired legal.middle legal.uncontrollable.run in
    locks-first C legal.controllable.fired next some (subst (λ s. Run system con s legal.controllable.fired next) middle legal.controllable.run) legal.controllable.enough

pub idle-scan : memories idle (turned ∷ []) ≡ memory (pos 1) (pos 1) closed (pos closed) (pos 0) (pos 1) ∷ []
unfolding digits repeated
idle-scan = refl

pub idle-scan_unturned : memories idle (unturned ∷ []) ≡ memory (pos 0) (pos 0) closed (pos closed) (pos 0) (pos 1) ∷ []
unfolding digits repeated
idle-scan_unturned = refl

idle-uncontrollable : (U C : ℕ) → 0 < U → ScansLegally U C face system idle → ⊥
idle-uncontrollable U C some scans =
    let legal = changes idle.body (λ s row t. ScanIsLegal system s row t U C) turned (memory (pos 1) (pos 1) closed (pos closed) (pos 0) (pos 1)) (door_at closed (pos 1)) (refl, tt) idle-scan
    (state-at idle.body (pos 1) (pos 1) closed (pos closed) (pos 0) (pos 1) (omega arith) refl) scans.1 in
    let same : 0 ≡ 1 = place-same 0 1 (pos 1) (pos 1) (legal-opens U C (door_at closed (pos 1)) some legal) in
    omega (arith, same)

idle-controllable : (U C : ℕ) → 0 < C → ScansLegally U C face system idle → ⊥
idle-controllable U C some scans =
    let legal = changes idle.body (λ s row t. ScanIsLegal system s row t U C) unturned (memory (pos 0) (pos 0) closed (pos closed) (pos 0) (pos 1)) (door_at closed (pos 0)) (refl, tt) idle-scan_unturned
    (state-at idle.body (pos 0) (pos 0) closed (pos closed) (pos 0) (pos 1) (omega arith) refl) scans.1 in
    let same : 0 ≡ 2 = place-same 0 2 (pos 0) (pos 0) (legal-locks U C (door_at closed (pos 0)) some legal) in
    omega (arith, same)

pub idle-legal : (U C : ℕ) → 0 < U + C → ScansLegally U C face system idle → ⊥
idle-legal zero C some scans = idle-controllable 0 C (omega (arith, some)) scans
idle-legal (suc U) C some scans = idle-uncontrollable (suc U) C (omega arith) scans

pub hasty-scan : memories hasty (turned ∷ []) ≡ memory (pos 1) (pos 1) locked (pos locked) (pos 0) (pos 1) ∷ []
unfolding digits repeated
hasty-scan = refl

pub hasty-legal : (U C : ℕ) → 0 < U → ScansLegally U C face system hasty → ⊥
hasty-legal U C some scans =
    let legal = changes hasty.body (λ s row t. ScanIsLegal system s row t U C) turned (memory (pos 1) (pos 1) locked (pos locked) (pos 0) (pos 1)) (door_at locked (pos 1)) (refl, tt) hasty-scan
    (state-at hasty.body (pos 1) (pos 1) locked (pos locked) (pos 0) (pos 1) (omega arith) refl) scans.1 in
    let same : 2 ≡ 1 = place-same 2 1 (pos 1) (pos 1) (legal-opens U C (door_at locked (pos 1)) some legal) in
    omega (arith, same)

-- ---- steps

pub misled-scan : memories misled (unturned ∷ []) ≡ memory (pos 0) (pos 0) opened (pos opened) (pos 0) (pos 2) ∷ []
unfolding digits repeated
misled-scan = refl

pub misled-first : RunsFirstSteps face system misled → ⊥
misled-first scans =
    let runs = changes misled.body (ScanRunsFirstSteps system) unturned (memory (pos 0) (pos 0) opened (pos opened) (pos 0) (pos 2)) (door_at opened (pos 0)) (refl, tt) misled-scan
    (state-at misled.body (pos 0) (pos 0) opened (pos opened) (pos 0) (pos 2) (omega arith) refl) scans in
    let middle = stays-closed runs.uncontrollable runs.middle (first-run unc (door_at closed (pos 0)) runs.uncontrollable runs.middle runs.first) in
    let run = subst (λ s. Run system con s runs.controllable (door_at opened (pos 0))) middle (first-run con runs.middle runs.controllable (door_at opened (pos 0)) runs.second) in
    go runs.controllable run (locks-or-none runs.controllable (door_at opened (pos 0)) run)
  where
    go : (fired : List ℕ) → Run system con (door_at closed (pos 0)) fired (door_at opened (pos 0)) → (fired ≡ []) ⊎ (door_at opened (pos 0) ≡ door_at locked (pos 0)) → ⊥
    go fired run (inl none) = let same : 1 ≡ 0 = place-same 1 0 (pos 0) (pos 0) (subst (λ es. Run system con (door_at closed (pos 0)) es (door_at opened (pos 0))) none run) in omega (arith, same)
    go fired run (inr is) = let same : 1 ≡ 2 = place-same 1 2 (pos 0) (pos 0) is in omega (arith, same)

pub forgetful-scan : memories forgetful (turned ∷ []) ≡ memories program (turned ∷ [])
unfolding digits repeated
forgetful-scan = refl

pub forgetful-scans : memories forgetful (turned ∷ unturned ∷ []) ≡ memory (pos 1) (pos 1) opened (pos opened) (pos 0) (pos 1) ∷ memory (pos 0) (pos 0) locked (pos locked) (pos 0) (pos 2) ∷ []
unfolding digits repeated
forgetful-scans = refl

pub forgetful-first : RunsFirstSteps face system forgetful → ⊥
forgetful-first scans =
    let runs = changes-then forgetful.body (ScanRunsFirstSteps system) turned unturned (memory (pos 1) (pos 1) opened (pos opened) (pos 0) (pos 1)) (memory (pos 0) (pos 0) locked (pos locked) (pos 0) (pos 2))
    (door_at opened (pos 1)) (door_at locked (pos 0)) (refl, tt) (refl, tt) forgetful-scans
    (state-at forgetful.body (pos 1) (pos 1) opened (pos opened) (pos 0) (pos 1) (omega arith) refl) (state-at forgetful.body (pos 0) (pos 0) locked (pos locked) (pos 0) (pos 2) (omega arith) refl) scans in
    let middle = still (door_at opened (pos 0)) refl refl unc runs.uncontrollable runs.middle (first-run unc (door_at opened (pos 0)) runs.uncontrollable runs.middle runs.first) in
    let last = still runs.middle (subst (λ s. makes_step system s 0 opening ≡ false) (sym middle) refl) (subst (λ s. makes_step system s 1 locking ≡ false) (sym middle) refl) con runs.controllable (door_at locked (pos 0)) (first-run con runs.middle runs.controllable (door_at locked (pos 0)) runs.second) in
    let same : 2 ≡ 1 = place-same 2 1 (pos 0) (pos 0) (last ∙ middle) in
    omega (arith, same)

-- ---- outputs, ends of scans, types and declarations

pub stale-scan : memories stale (turned ∷ []) ≡ memory (pos 1) (pos 1) opened (pos closed) (pos 0) (pos 1) ∷ []
unfolding digits repeated
stale-scan = refl

pub stale-outputs : ShowsOutputs face system stale → ⊥
stale-outputs shows =
    let m : Memory = memory (pos 1) (pos 1) opened (pos closed) (pos 0) (pos 1) in
    let seen = (subst (AllByRecursion (λ n. (s : State) × StateOf face system stale n s × Shows system stale n s)) stale-scan (shows (turned ∷ []) ((refl, tt), tt))).0 in
    let state = one-state face system stale m seen.0 (door_at opened (pos 1)) seen.1 (state-at stale.body (pos 1) (pos 1) opened (pos closed) (pos 0) (pos 1) (omega arith) refl) in
    let same : 0 ≡ 1 = number-same 0 1 (subst (λ s. output_values variables m ≡ seen_values (outputs system s)) state seen.2) in
    omega (arith, same)

astray-scan : memories astray (unturned ∷ []) ≡ []
unfolding digits repeated
astray-scan = refl

turns-forever : (tests n : ℕ) (m : Memory) → repeated tests (value_of variables (truth true)) (λ l k. exec variables no_stms l k) n m ≡ OutOfTurns
unfolding repeated
turns-forever zero n m = refl
turns-forever (suc tests) zero m = refl
turns-forever (suc tests) (suc n) m = turns-forever tests n m

endless-scan : memories endless (unturned ∷ []) ≡ []
endless-scan = ap (λ o. when_ended (and_then o (λ l k. exec variables program.body l k)) (λ m. m ∷ [])) (turns-forever (suc turns_of_scan) turns_of_scan (store_row variables unturned (start_memory endless)))

pub astray-faults : NeverFaults system astray → ⊥
astray-faults ends = let none : 0 ≡ 1 = subst (λ ms. length ms ≡ 1) astray-scan (ends (unturned ∷ []) ((refl, tt), tt)) in omega (arith, none)

pub endless-faults : NeverFaults system endless → ⊥
endless-faults ends = let none : 0 ≡ 1 = subst (λ ms. length ms ≡ 1) endless-scan (ends (unturned ∷ []) ((refl, tt), tt)) in omega (arith, none)

pub untyped-scan : memories untyped (unturned ∷ []) ≡ memory (pos 0) (pos 2) opened (pos opened) (pos 0) (pos 1) ∷ []
unfolding digits repeated
untyped-scan = refl

pub untyped-leaves : StaysTyped system untyped → ⊥
untyped-leaves typed = false-true false refl (subst (AllByRecursion (AreInTypes untyped)) untyped-scan (typed (unturned ∷ []) ((refl, tt), tt)).1).0.1.0

pub hidden-interface : HasInterface face hidden → ⊥
hidden-interface h = let none : 0 ≡ 1 = ap length h.outputs in omega (arith, none)

pub ajar-starts : IsProgramOf face system ajar → ⊥
unfolding digits
ajar-starts starts = let same : 1 ≡ 0 = ap nat_abs (some-same (pos 1) (pos 0) starts.1.places.0.holds) in omega (arith, same)
