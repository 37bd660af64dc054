-- Worked examples of channels, exclusions and partners, each by computing.
use Rattle.std.proofs.Common.{◌≡◌, ℕ, ℤ, pos, negsuc, true, false, List, [], ◌∷◌, Option, Some, None, refl}
use Rattle.std.specs.Prelude.{nat_eq}
use Rattle.cif_system.specs.System.{unc, sending, receiving, Automaton, Channel, void_channel, value_channel, Exclusion, System, initial}
use Rattle.cif_system.specs.Step.{agrees}
use Rattle.cif_system.specs.Choices.{first_step, choices, choice_count}
use Rattle.cif_system.proofs.Makers.{plain_edge, role_edge, synchronising, communicating, event_of, channel_of, system_with, at_places, zero_to_two, place_at}

-- Automaton 0 sends what it is said to, and automaton 1 receives it. Both move from place 0 to place 1.
abbrev sending_over : Channel → Option ℤ → System
sending_over channel value =
    system_with (communicating 2 (record (role_edge sending 0 1) { sent = λ s. value } ∷ []) ∷ communicating 2 (role_edge receiving 0 1 ∷ []) ∷ []) (channel_of unc channel ∷ [])

-- the range of the channel is asked, though no variable takes the value
sent_value_above_the_range_is_no_step : first_step (sending_over (value_channel zero_to_two) (Some (pos 3))) (at_places (0 ∷ 0 ∷ [])) 0 ≡ None
sent_value_above_the_range_is_no_step = refl

sent_value_below_the_range_is_no_step : first_step (sending_over (value_channel zero_to_two) (Some (negsuc 0))) (at_places (0 ∷ 0 ∷ [])) 0 ≡ None
sent_value_below_the_range_is_no_step = refl

-- both bounds are in the range
sent_value_at_the_upper_bound_passes : first_step (sending_over (value_channel zero_to_two) (Some (pos 2))) (at_places (0 ∷ 0 ∷ [])) 0 ≡ Some (at_places (1 ∷ 1 ∷ []))
sent_value_at_the_upper_bound_passes = refl

sent_value_at_the_lower_bound_passes : first_step (sending_over (value_channel zero_to_two) (Some (pos 0))) (at_places (0 ∷ 0 ∷ [])) 0 ≡ Some (at_places (1 ∷ 1 ∷ []))
sent_value_at_the_lower_bound_passes = refl

-- a channel without values has no range to ask, and its partners move together
void_channel_passes : first_step (sending_over void_channel None) (at_places (0 ∷ 0 ∷ [])) 0 ≡ Some (at_places (1 ∷ 1 ∷ []))
void_channel_passes = refl

-- where the receiver has no enabled edge, the sender waits
void_channel_waits_for_its_receiver : first_step (sending_over void_channel None) (at_places (0 ∷ 1 ∷ [])) 0 ≡ None
void_channel_waits_for_its_receiver = refl

-- Automata 0 and 1 receive, and automata 2 and 3 send.
abbrev two_and_two : System
two_and_two =
    system_with
    (communicating 1 (role_edge receiving 0 0 ∷ []) ∷ communicating 1 (role_edge receiving 0 0 ∷ []) ∷ communicating 1 (role_edge sending 0 0 ∷ []) ∷ communicating 1 (role_edge sending 0 0 ∷ []) ∷ [])
    (channel_of unc void_channel ∷ [])

-- by the sender's number and then by the receiver's, though the receivers stand first
choices_go_by_sender_then_receiver : choices two_and_two 0
    ≡ (Some 0 ∷ None ∷ Some 0 ∷ None ∷ [])
    ∷ (None ∷ Some 0 ∷ Some 0 ∷ None ∷ [])
    ∷ (Some 0 ∷ None ∷ None ∷ Some 0 ∷ [])
    ∷ (None ∷ Some 0 ∷ None ∷ Some 0 ∷ [])
    ∷ []
choices_go_by_sender_then_receiver = refl

pairs_are_counted : choice_count two_and_two 0 ≡ 4
pairs_are_counted = refl

-- An automaton that sends by its first edge and receives by its second.
abbrev two_way : Automaton
two_way = communicating 1 (role_edge sending 0 0 ∷ role_edge receiving 0 0 ∷ [])

-- alone it has no partner
no_automaton_is_a_pair_with_itself : choices (system_with (two_way ∷ []) (channel_of unc void_channel ∷ [])) 0 ≡ []
no_automaton_is_a_pair_with_itself = refl

no_pair_with_itself_is_counted : choice_count (system_with (two_way ∷ []) (channel_of unc void_channel ∷ [])) 0 ≡ 0
no_pair_with_itself_is_counted = refl

-- two of them send to one another, either way
two_pairs_of_two : choices (system_with (two_way ∷ two_way ∷ []) (channel_of unc void_channel ∷ [])) 0 ≡ (Some 0 ∷ Some 1 ∷ []) ∷ (Some 1 ∷ Some 0 ∷ []) ∷ []
two_pairs_of_two = refl

-- Two automata with two edges each for event 0.
abbrev two_edges_each : System
two_edges_each =
    let a : Automaton = synchronising 3 (plain_edge 0 0 1 ∷ plain_edge 0 0 2 ∷ []) in
    system_with (a ∷ a ∷ []) (event_of unc ∷ [])

-- the first automaton is the most significant
first_automaton_is_most_significant : choices two_edges_each 0 ≡ (Some 0 ∷ Some 0 ∷ []) ∷ (Some 0 ∷ Some 1 ∷ []) ∷ (Some 1 ∷ Some 0 ∷ []) ∷ (Some 1 ∷ Some 1 ∷ []) ∷ []
first_automaton_is_most_significant = refl

edges_are_multiplied : choice_count two_edges_each 0 ≡ 4
edges_are_multiplied = refl

-- the first edge that is enabled is taken
first_open_edges_are_taken : first_step two_edges_each (initial two_edges_each) 0 ≡ Some (at_places (1 ∷ 1 ∷ []))
first_open_edges_are_taken = refl

-- Events 0 and 1 both lead from place 0 to place 1, with these exclusions.
abbrev excluding : List Exclusion → System
excluding exclusions = record (system_with (synchronising 2 (plain_edge 0 0 1 ∷ plain_edge 1 0 1 ∷ []) ∷ []) (event_of unc ∷ event_of unc ∷ [])) { exclusions = exclusions }

-- event 0 is permitted in this place alone
abbrev only_in : ℕ → Exclusion
only_in place = record { event = 0; permits = λ s. nat_eq (place_at 0 s) place }

-- it permits the state before the step, and would not permit the one after
exclusion_is_asked_before_the_step : first_step (excluding (only_in 0 ∷ [])) (at_places (0 ∷ [])) 0 ≡ Some (at_places (1 ∷ []))
exclusion_is_asked_before_the_step = refl

-- it would permit the state after the step, and does not permit the one before
exclusion_is_not_asked_after_the_step : first_step (excluding (only_in 1 ∷ [])) (at_places (0 ∷ [])) 0 ≡ None
exclusion_is_not_asked_after_the_step = refl

-- the other event goes on
exclusion_is_of_its_event : first_step (excluding (only_in 1 ∷ [])) (at_places (0 ∷ [])) 1 ≡ Some (at_places (1 ∷ []))
exclusion_is_of_its_event = refl

-- of two exclusions of one event each can forbid it
second_exclusion_counts : first_step (excluding (only_in 0 ∷ only_in 1 ∷ [])) (at_places (0 ∷ [])) 0 ≡ None
second_exclusion_counts = refl

first_exclusion_counts : first_step (excluding (only_in 1 ∷ only_in 0 ∷ [])) (at_places (0 ∷ [])) 0 ≡ None
first_exclusion_counts = refl

-- an edge from a place to itself
self_loop_moves_nothing : first_step (system_with (synchronising 2 (plain_edge 0 1 1 ∷ []) ∷ []) (event_of unc ∷ [])) (at_places (1 ∷ [])) 0 ≡ Some (at_places (1 ∷ []))
self_loop_moves_nothing = refl

-- One automaton synchronises on event 0 alone, of two events.
abbrev one_of_two : System
one_of_two = system_with (record (synchronising 1 (plain_edge 0 0 0 ∷ [])) { synchronises = λ e. nat_eq e 0 } ∷ []) (event_of unc ∷ event_of unc ∷ [])

-- no automaton has event 1 in a role: to stay is no step of it
event_of_no_automaton_has_no_step : first_step one_of_two (initial one_of_two) 1 ≡ None
event_of_no_automaton_has_no_step = refl

staying_alone_does_not_agree : agrees one_of_two (initial one_of_two) 1 (None ∷ []) ≡ false
staying_alone_does_not_agree = refl

event_of_no_automaton_has_no_choice : choice_count one_of_two 1 ≡ 0
event_of_no_automaton_has_no_choice = refl

-- Two automata monitor event 0, and their only edges for it leave place 1.
abbrev all_monitor : System
all_monitor =
    let a : Automaton = record (synchronising 2 (plain_edge 0 1 0 ∷ [])) { monitors = λ e. true } in
    system_with (a ∷ a ∷ []) (event_of unc ∷ [])

-- none has an enabled edge, and the event passes
event_that_all_monitor_passes : first_step all_monitor (initial all_monitor) 0 ≡ Some (at_places (0 ∷ 0 ∷ []))
event_that_all_monitor_passes = refl

-- each that has an enabled edge takes it
monitors_take_their_open_edges : first_step all_monitor (at_places (1 ∷ 0 ∷ [])) 0 ≡ Some (at_places (0 ∷ 0 ∷ []))
monitors_take_their_open_edges = refl
