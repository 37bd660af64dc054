-- Worked examples of rounds, inputs and observations, each by computing.
use Rattle.std.proofs.Common.{◌≡◌, ℕ, ℤ, pos, [], ◌∷◌, refl}
use Rattle.std.specs.Prelude.{int_le}
use Rattle.cif_system.specs.System.{State, plain, con, unc, System, initial, outputs}
use Rattle.cif_system.specs.Choices.{all_choices}
use Rattle.cif_system.specs.Scan.{exact_scan, of_class}
use Rattle.cif_system.proofs.Makers.{plain_edge, synchronising, event_of, system_with, at_places, zero_to_two, place_at, value_at, input_at}

-- One automaton moves from place 0 to place 1 where input 0, of the range 0 to 2 and first 0, is at least 1.
abbrev pub reading_input : System
reading_input =
    record (system_with (synchronising 2 (record (plain_edge 0 0 1) { guard = λ s. int_le (pos 1) (input_at 0 s) } ∷ []) ∷ []) (event_of unc ∷ [])) {
      inputs = record { range = zero_to_two; first = pos 0 } ∷ [];
    }

abbrev pub with_input : ℕ → ℤ → State
with_input place value = record { locs = place ∷ []; vals = []; ins = value ∷ [] }

first_values_of_inputs : initial reading_input ≡ with_input 0 (pos 0)
first_values_of_inputs = refl

-- the guard reads the row, which stays in the state
row_opens_the_guard : exact_scan reading_input (initial reading_input) (pos 2 ∷ []) 1 1 ≡ with_input 1 (pos 2)
row_opens_the_guard = refl

-- the input of the scan before is gone
old_input_is_not_read : exact_scan reading_input (with_input 0 (pos 2)) (pos 0 ∷ []) 1 1 ≡ with_input 0 (pos 0)
old_input_is_not_read = refl

-- Two variables and two algebraic variables: the value of variable 1, and the place as a number.
abbrev observing : System
observing =
    record (system_with (synchronising 2 [] ∷ []) []) {
      variables = record { range = zero_to_two; first = pos 0 } ∷ record { range = zero_to_two; first = pos 0 } ∷ [];
      algs = value_at 1 ∷ (λ s. pos (place_at 0 s)) ∷ [];
    }

-- each is computed in the state, in their order
algebraic_values_are_observed : outputs observing (record { locs = 1 ∷ []; vals = pos 0 ∷ pos 2 ∷ []; ins = [] }) ≡ record { places = 1 ∷ []; values = pos 0 ∷ pos 2 ∷ []; algs = pos 2 ∷ pos 1 ∷ [] }
algebraic_values_are_observed = refl

-- Events 0 and 2 are uncontrollable, event 1 is controllable and event 3 neither. From place 0 event 0 leads to place 1
-- and event 2 to place 2; from place 1 event 2 leads to place 3 and event 1 to place 4; event 3 leads from place 3 to 0.
abbrev racing : System
racing =
    system_with (synchronising 5 (plain_edge 2 0 2 ∷ plain_edge 2 1 3 ∷ plain_edge 1 1 4 ∷ plain_edge 0 0 1 ∷ plain_edge 3 3 0 ∷ []) ∷ [])
    (event_of unc ∷ event_of con ∷ event_of unc ∷ event_of plain ∷ [])

events_of_a_class_ascend : of_class racing unc ≡ 0 ∷ 2 ∷ []
events_of_a_class_ascend = refl

-- in one round event 0 fires and then event 2, whatever the order of the edges
lower_event_fires_first : exact_scan racing (initial racing) [] 1 1 ≡ at_places (3 ∷ [])
lower_event_fires_first = refl

-- an event of neither class never fires
event_of_neither_class_is_left : exact_scan racing (at_places (3 ∷ [])) [] 5 5 ≡ at_places (3 ∷ [])
event_of_neither_class_is_left = refl

-- two choices for event 2, and one for each other
choices_of_all_events_are_added : all_choices racing ≡ 5
choices_of_all_events_are_added = refl

-- One event leads from place 0 to place 1 and from there to place 2.
abbrev pub twice : System
twice = system_with (synchronising 3 (plain_edge 0 0 1 ∷ plain_edge 0 1 2 ∷ []) ∷ []) (event_of unc ∷ [])

-- with two steps ahead of it the event fires once a round
event_fires_once_a_round : exact_scan twice (initial twice) [] 1 0 ≡ at_places (1 ∷ [])
event_fires_once_a_round = refl

next_round_fires_it_again : exact_scan twice (initial twice) [] 2 0 ≡ at_places (2 ∷ [])
next_round_fires_it_again = refl

-- rounds in which nothing can fire change nothing
further_rounds_change_nothing : exact_scan twice (initial twice) [] 5 5 ≡ at_places (2 ∷ [])
further_rounds_change_nothing = refl
