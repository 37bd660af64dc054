-- The texts that `simulate` writes of a system, and where a script stops.
use Rattle.std.specs.Prelude.{◌≡◌, ℕ, zero, suc, ℤ, false, nat_lt, List, [], ◌∷◌, ◌++◌, length, Some, None, if◌then◌else◌}
use Rattle.grammar.specs.Pieces.{Text}
use Rattle.cif_system.specs.System.{State, System, initial}
use Rattle.cif_system.specs.Step.{Step}
use Rattle.cif_sim_model.specs.Names.{Names}
use Rattle.cif_sim_model.specs.Texts.{start_line, set_line, step_line, deadlock_line}
use Rattle.cif_sim_model.specs.Script.{Action, idle, sets, fires, script_lines, read_line}
use Rattle.cif_sim_model.specs.Runs.{Moment, input_fits, next_by, moments_by, end_of, first_moments}

-- ---- the lines of a run

-- k steps were made before
abbrev pub moment_text : Names → (k : ℕ) → Moment → Text
moment_text names k h = elim h.action [ idle ↦ [] | sets input z ↦ set_line names input z | fires e ↦ step_line names (suc k) e h.before h.after ]

abbrev pub steps_after : (k : ℕ) → Action → ℕ
steps_after k idle = k
steps_after k (sets input z) = k
steps_after k (fires e) = suc k

abbrev pub moments_text : Names → (k : ℕ) → List Moment → Text
moments_text names k [] = []
moments_text names k (h ∷ hs) = moment_text names k h ++ moments_text names (steps_after k h.action) hs

abbrev pub run_text : Names → System → List Moment → Text
run_text names m hs = start_line names (initial m) ++ moments_text names 0 hs

-- ---- a script

-- what the lines say up to the first that says nothing of the kind
abbrev pub actions_of : Names → List Text → List Action
actions_of names [] = []
actions_of names (l ∷ ls) = elim (read_line names l) [ None ↦ [] | Some a ↦ a ∷ actions_of names ls ]

-- one for each line before the one at which the script stops
abbrev pub script_moments : Names → System → Text → List Moment
script_moments names m script = moments_by m (initial m) (actions_of names (script_lines script))

-- the lines up to the one at which the script stops, or all
abbrev pub script_text : Names → System → (script : Text) → Text
script_text names m script = run_text names m (script_moments names m script)

abbrev pub state_reached : Names → System → (script : Text) → State
state_reached names m script = end_of (initial m) (script_moments names m script)

-- ---- where it stops

-- why a line can't be followed: a value outside the range of its input, an event without a step, or a line that says nothing
-- of the kind
pub data StopCause : Type 0 where
  out_of_range : ℤ → StopCause
  not_enabled : StopCause
  bad_line : StopCause

-- the line meets the cause in this state
abbrev pub Meets : Names → System → State → Text → StopCause → Type 0
Meets names m s line (out_of_range z) = (input : ℕ) × (read_line names line ≡ Some (sets input z)) × (input_fits m input z ≡ false)
Meets names m s line not_enabled = (event : ℕ) × (read_line names line ≡ Some (fires event)) × ((next : State) → Step m s event next → ⊥)
Meets names m s line bad_line = read_line names line ≡ None

-- of these lines the line k, counted from 1, is the first that meets a cause, and this is it
abbrev pub FirstStop : Names → System → State → List Text → (k : ℕ) → StopCause → Type 0
FirstStop names m s [] k why = ⊥
FirstStop names m s (l ∷ ls) zero why = ⊥
FirstStop names m s (l ∷ ls) (suc zero) why = Meets names m s l why
FirstStop names m s (l ∷ ls) (suc (suc k)) why =
    (a : Action) × (next : State) × (read_line names l ≡ Some a) × (next_by m s a ≡ Some next) × FirstStop names m next ls (suc k) why

-- the script stops at its line k
abbrev pub StopsAt : Names → System → (script : Text) → (k : ℕ) → StopCause → Type 0
StopsAt names m script k why = FirstStop names m (initial m) (script_lines script) k why

-- no line meets a cause
abbrev pub Runs : Names → System → (script : Text) → Type 0
Runs names m script = (k : ℕ) (why : StopCause) → StopsAt names m script k why → ⊥

-- ---- steps by the first event that has one

-- fewer steps than asked for end in a deadlock
abbrev pub ending : (made asked : ℕ) → Text
ending made asked = if nat_lt made asked then deadlock_line else []

abbrev pub first_text : Names → System → (n : ℕ) → Text
first_text names m n = run_text names m (first_moments m (initial m) n) ++ ending (length (first_moments m (initial m) n)) n
