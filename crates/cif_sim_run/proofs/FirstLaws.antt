-- The text of steps by the first event that has one, step by step.
use Rattle.std.proofs.Common.{◌≡◌, ℕ, suc, ◌<◌, List, [], ◌∷◌, ◌++◌, length, Option, Some, None, refl, sym, ◌∙◌, ap, subst, append_assoc, arith}
use Rattle.std.specs.Prelude.{if◌then◌else◌}
use Rattle.std.proofs.Math.Dec.{leb-suc-suc}
use Rattle.std.proofs.lemmas.Bool.{lt-ltb}
use Rattle.cif_system.specs.System.{State, System, initial}
use Rattle.cif_system.specs.Choices.{first_step}
use Rattle.cif_system.specs.Scan.{fire}
use Rattle.cif_sim_model.specs.Names.{Names}
use Rattle.cif_sim_model.specs.Texts.{deadlock_line, start_line, step_line}
use Rattle.cif_sim_model.specs.Script.{Action, fires}
use Rattle.cif_sim_model.specs.Runs.{Moment, first_event, first_moments}
use Rattle.cif_sim_model.specs.Simulation.{moments_text, ending, first_text}
use Rattle.cif_sim_model.specs.Steps.{IsRun, IsFirstRun}
use Rattle.cif_sim_model.proofs.RunLaws.{first-runs}
use Rattle.cif_sim_run.specs.Left.{first_left}

abbrev by_event : System → State → (n : ℕ) → Option ℕ → List Moment
by_event m s n o = elim o [ None ↦ [] | Some e ↦ record { action = fires e; before = s; after = fire m s e } ∷ first_moments m (fire m s e) n ]

abbrev event-fired : Action → ℕ
event-fired (fires e) = e
event-fired _ = 0

module _ (m : System) where
  -- an event that is the first to have a step is one of the system, and it has that step
  pub record FirstFires (s : State) (e : ℕ) : Type 0 where
    pub below : e < length m.events
    pub leads : first_step m s e ≡ Some (fire m s e)

  pub first-fires : (s : State) (e : ℕ) → first_event m s ≡ Some e → FirstFires s e
  first-fires s e h =
      let all = first-runs m s 1 in
      let one : first_moments m s 1 ≡ record { action = fires e; before = s; after = fire m s e } ∷ [] = ap (by_event m s 0) h in
      let run : IsRun m s (record { action = fires e; before = s; after = fire m s e } ∷ []) = subst (IsRun m s) one all.run in
      let first : IsFirstRun m s (record { action = fires e; before = s; after = fire m s e } ∷ []) = subst (IsFirstRun m s) one all.first in
      record {
        below = subst (λ k. k < length m.events) (ap event-fired (sym first.1)) first.2;
        leads = run.1.1;
      }

  module _ (names : Names) where
    pub no-steps : (s : State) (k : ℕ) → first_left names m s k 0 ≡ []
    no-steps s k = refl

    ending-none : (n : ℕ) → ending 0 (suc n) ≡ deadlock_line
    ending-none n = ap (λ b. if b then deadlock_line else []) (lt-ltb 0 (suc n) (omega arith))

    ending-next : (a b : ℕ) → ending (suc a) (suc b) ≡ ending a b
    ending-next a b = ap (λ t. if t then deadlock_line else []) (leb-suc-suc (suc a) b)

    pub no-event : (s : State) (k n : ℕ) → first_event m s ≡ None → first_left names m s k (suc n) ≡ deadlock_line
    no-event s k n h = ap (λ o. moments_text names k (by_event m s n o) ++ ending (length (by_event m s n o)) (suc n)) h ∙ ending-none n

    pub one-step : (s : State) (k n e : ℕ) → first_event m s ≡ Some e
        → first_left names m s k (suc n) ≡ step_line names (suc k) e s (fire m s e) ++ first_left names m (fire m s e) (suc k) n
    one-step s k n e h =
        let next = fire m s e in
        let line = step_line names (suc k) e s next in
        let rest = moments_text names (suc k) (first_moments m next n) in
        let made = length (first_moments m next n) in
        ap (λ o. moments_text names k (by_event m s n o) ++ ending (length (by_event m s n o)) (suc n)) h
        ∙ ap (λ t. (line ++ rest) ++ t) (ending-next made n)
        ∙ append_assoc line rest (ending made n)

    -- the start line, and what is left of it then
    pub whole-first : (n : ℕ) → first_text names m n ≡ start_line names (initial m) ++ first_left names m (initial m) 0 n
    whole-first n =
        append_assoc (start_line names (initial m)) (moments_text names 0 (first_moments m (initial m) n)) (ending (length (first_moments m (initial m) n)) n)
