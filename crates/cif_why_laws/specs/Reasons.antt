-- What it means that the reasons of a system are those why its events have no step.
use Rattle.std.specs.Prelude.{◌≡◌, ℕ, [], option_map, slice_get, unwrap_or}
use Rattle.grammar.specs.Pieces.{Text}
use Rattle.cif_system.specs.Words.{Member}
use Rattle.cif_system.specs.System.{State, System}
use Rattle.cif_system.specs.Step.{Step}
use Rattle.cif_sim_model.specs.Names.{Names, ValueNames}
use Rattle.cif_why_model.specs.Reasons.{Holds, Reason, reasons_of}
use Rattle.cif_why_model.specs.Told.{Told}

-- the path of a variable
abbrev pub variable_path : Names → ℕ → Text
variable_path names v = unwrap_or (option_map (λ (x : ValueNames). x.path) (slice_get names.variables v)) []

-- the event has no step in the state
abbrev pub HasNoStep : System → State → ℕ → Type 0
HasNoStep m s e = (next : State) → Step m s e next → ⊥

-- In each state an event has no reasons exactly where it has a step. Each of its reasons holds, and where it has no step, each
-- that holds is one of them.
pub record ExplainsSteps (m : System) (t : Told) : Type 0 where
  pub none_means_step : (s : State) (e : ℕ) → reasons_of m t s e ≡ [] → (next : State) × Step m s e next
  pub step_means_none : (s : State) (e : ℕ) (next : State) → Step m s e next → reasons_of m t s e ≡ []
  pub each_holds : (s : State) (e : ℕ) (r : Reason) → Member r (reasons_of m t s e) → Holds m t s e r
  pub all_are_told : (s : State) (e : ℕ) (r : Reason) → HasNoStep m s e → Holds m t s e r → Member r (reasons_of m t s e)
