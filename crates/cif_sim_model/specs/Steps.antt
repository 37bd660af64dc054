-- What is promised of runs: each step is one of the system, and where events are taken in order each is of the lowest-numbered
-- event that has one.
use Rattle.std.specs.Prelude.{◌≡◌, ◌⊎◌, ℕ, suc, ◌<◌, ◌≤◌, true, List, [], ◌∷◌, length, Some}
use Rattle.grammar.specs.Pieces.{Text}
use Rattle.cif_system.specs.System.{State, System}
use Rattle.cif_system.specs.Step.{Step}
use Rattle.cif_system.specs.Choices.{first_step}
use Rattle.cif_sim_model.specs.Names.{Names}
use Rattle.cif_sim_model.specs.Script.{Action, idle, sets, fires, script_lines}
use Rattle.cif_sim_model.specs.Runs.{Moment, input_fits, with_input, end_of, first_moments}
use Rattle.cif_sim_model.specs.Simulation.{StopCause, StopsAt, script_moments}

-- The action leads from one state to the other: an event by a step, its first.
abbrev pub LeadsTo : System → Action → State → State → Type 0
LeadsTo m idle s next = next ≡ s
LeadsTo m (sets input z) s next = (input_fits m input z ≡ true) × (next ≡ with_input s input z)
LeadsTo m (fires e) s next = Step m s e next × (first_step m s e ≡ Some next)

-- a run from this state on
abbrev pub IsRun : System → State → List Moment → Type 0
IsRun m s [] = Unit {0}
IsRun m s (h ∷ hs) = (h.before ≡ s) × LeadsTo m h.action s h.after × IsRun m h.after hs

-- no event of the system has a step
abbrev pub IsDeadlocked : System → State → Type 0
IsDeadlocked m s = (e : ℕ) → e < length m.events → (next : State) → Step m s e next → ⊥

-- a run of events, of which each is the lowest-numbered one that has a step
abbrev pub IsFirstRun : System → State → List Moment → Type 0
IsFirstRun m s [] = Unit {0}
IsFirstRun m s (h ∷ hs) = (e : ℕ) × (h.action ≡ fires e) × (e < length m.events) × ((k : ℕ) → k < e → (next : State) → Step m s k next → ⊥)
    × IsFirstRun m h.after hs

-- n steps of a system by the first event that has one, or fewer where none is left
pub record RunsFirst (m : System) (s : State) (n : ℕ) : Type 0 where
  pub run : IsRun m s (first_moments m s n)
  pub first : IsFirstRun m s (first_moments m s n)
  pub within : length (first_moments m s n) ≤ n
  pub ended : length (first_moments m s n) < n → IsDeadlocked m (end_of s (first_moments m s n))

-- The script runs to its end, a moment for each line, or stops at the line after its moments.
abbrev pub EndsOrStops : Names → System → (script : Text) → Type 0
EndsOrStops names m script = (length (script_moments names m script) ≡ length (script_lines script))
    ⊎ ((why : StopCause) × StopsAt names m script (suc (length (script_moments names m script))) why)
