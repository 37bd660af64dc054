-- The runs of a simulation: what becomes of a state by the actions of a script, and by events that are the first to have a
-- step.
use Rattle.std.specs.Prelude.{ℕ, zero, suc, ℤ, Bool, false, List, [], ◌∷◌, find, slice_get, slice_set, Option, Some, None, is_some, if◌then◌else◌}
use Rattle.cif_system.specs.System.{Class, State, System, in_range}
use Rattle.cif_system.specs.Choices.{event_numbers, first_step}
use Rattle.cif_system.specs.Scan.{fire, of_class}
use Rattle.cif_sim_model.specs.Script.{Action, idle, sets, fires}

-- ---- one action

-- the value is in the range of the input
abbrev pub input_fits : System → (input : ℕ) → ℤ → Bool
input_fits m input z = elim (slice_get m.inputs input) [ None ↦ false | Some v ↦ in_range v.range z ]

abbrev pub with_input : State → (input : ℕ) → ℤ → State
with_input s input z = record s { ins = slice_set s.ins input z }

-- The state after an action, where it can be made: the value is in range, the event has a step. An event takes the first
-- choice that makes one.
abbrev pub next_by : System → State → Action → Option State
next_by m s idle = Some s
next_by m s (sets input z) = if input_fits m input z then Some (with_input s input z) else None
next_by m s (fires e) = first_step m s e

-- ---- runs

-- an action that was made, with the states before and after it
pub record Moment : Type 0 where
  pub action : Action
  pub before : State
  pub after : State

-- each of the actions in turn, up to the first that can't be made
abbrev pub moments_by : System → State → List Action → List Moment
moments_by m s [] = []
moments_by m s (a ∷ as') = elim (next_by m s a) [ None ↦ [] | Some next ↦ record { action = a; before = s; after = next } ∷ moments_by m next as' ]

-- where a run leads that begins in this state
abbrev pub end_of : State → List Moment → State
end_of s [] = s
end_of s (h ∷ hs) = end_of h.after hs

-- the lowest-numbered event that has a step
abbrev pub first_event : System → State → Option ℕ
first_event m s = find (λ e. is_some (first_step m s e)) (event_numbers m)

-- the lowest-numbered event of the class that has one
abbrev pub first_event_of : System → Class → State → Option ℕ
first_event_of m k s = find (λ e. is_some (first_step m s e)) (of_class m k)

-- at most n steps, each by the lowest-numbered event that has one
abbrev pub first_moments : System → State → (n : ℕ) → List Moment
first_moments m s zero = []
first_moments m s (suc n) = elim (first_event m s) [ None ↦ [] | Some e ↦ record { action = fires e; before = s; after = fire m s e } ∷ first_moments m (fire m s e) n ]
