-- Worked examples of steps and updates, each by computing.
use Rattle.std.proofs.Common.{◌≡◌, ℕ, ℤ, pos, Bool, true, false, List, [], ◌∷◌, Some, None, refl}
use Rattle.std.specs.Prelude.{int_le, if◌then◌else◌}
use Rattle.cif_system.specs.System.{State, con, unc, sending, receiving, Automaton, value_channel, System, initial}
use Rattle.cif_system.specs.Step.{agrees}
use Rattle.cif_system.specs.Choices.{first_step, choices, all_choices}
use Rattle.cif_system.specs.Scan.{exact_scan}
use Rattle.cif_system.proofs.Makers.{plain_edge, role_edge, synchronising, communicating, event_of, channel_of, system_with, at_places, zero_to_two, value_at}

-- Two places x and y: event 0, uncontrollable, leads from x to y, and event 1, controllable, back.
abbrev pub two_classes : System
two_classes = system_with (synchronising 2 (plain_edge 0 0 1 ∷ plain_edge 1 1 0 ∷ []) ∷ []) (event_of unc ∷ event_of con ∷ [])

starts_in_x : initial two_classes ≡ at_places (0 ∷ [])
starts_in_x = refl

uncontrollable_leads_to_y : first_step two_classes (initial two_classes) 0 ≡ Some (at_places (1 ∷ []))
uncontrollable_leads_to_y = refl

controllable_waits_in_x : first_step two_classes (initial two_classes) 1 ≡ None
controllable_waits_in_x = refl

-- the uncontrollable event fires, and then the controllable one
scan_returns_to_x : exact_scan two_classes (initial two_classes) [] 3 3 ≡ initial two_classes
scan_returns_to_x = refl

long_scan_returns_to_x : exact_scan two_classes (initial two_classes) [] 100 100 ≡ initial two_classes
long_scan_returns_to_x = refl

-- with no round of the controllable class it stays in y
uncontrollable_scan_ends_in_y : exact_scan two_classes (initial two_classes) [] 3 0 ≡ at_places (1 ∷ [])
uncontrollable_scan_ends_in_y = refl

-- Two automata synchronise on event 0. The second monitors it where it is said to, and its only edge leaves place 1 of
-- three.
abbrev observed : Bool → System
observed monitored =
    system_with (synchronising 2 (plain_edge 0 0 1 ∷ []) ∷ record (synchronising 3 (plain_edge 0 1 0 ∷ [])) { monitors = λ e. monitored } ∷ []) (event_of unc ∷ [])

monitor_without_open_edge_stays : first_step (observed true) (initial (observed true)) 0 ≡ Some (at_places (1 ∷ 0 ∷ []))
monitor_without_open_edge_stays = refl

monitor_stays_where_it_is : first_step (observed true) (at_places (0 ∷ 2 ∷ [])) 0 ≡ Some (at_places (1 ∷ 2 ∷ []))
monitor_stays_where_it_is = refl

monitor_with_open_edge_takes_it : first_step (observed true) (at_places (0 ∷ 1 ∷ [])) 0 ≡ Some (at_places (1 ∷ 0 ∷ []))
monitor_with_open_edge_takes_it = refl

monitor_with_open_edge_may_not_stay : agrees (observed true) (at_places (0 ∷ 1 ∷ [])) 0 (Some 0 ∷ None ∷ []) ≡ false
monitor_with_open_edge_may_not_stay = refl

partner_may_not_stay : agrees (observed false) (initial (observed false)) 0 (Some 0 ∷ None ∷ []) ≡ false
partner_may_not_stay = refl

partner_without_open_edge_blocks : first_step (observed false) (initial (observed false)) 0 ≡ None
partner_without_open_edge_blocks = refl

-- the second automaton's edge stands before that it stays
monitor_has_two_choices : choices (observed true) 0 ≡ (Some 0 ∷ Some 0 ∷ []) ∷ (Some 0 ∷ None ∷ []) ∷ []
monitor_has_two_choices = refl

monitor_counts_one_more : all_choices (observed true) ≡ 2
monitor_counts_one_more = refl

-- The variables 0 and 1 have the range 0 to 2 and are first 1 and 2. One automaton of one place assigns to them.
abbrev updating : (State → List (ℕ × ℤ)) → System
updating assigned =
    record (system_with (synchronising 1 (record (plain_edge 0 0 0) { assigned = λ s r. assigned s } ∷ []) ∷ []) (event_of unc ∷ [])) {
      variables = record { range = zero_to_two; first = pos 1 } ∷ record { range = zero_to_two; first = pos 2 } ∷ [];
    }

abbrev pub with_values : List ℤ → State
with_values values = record { locs = 0 ∷ []; vals = values; ins = [] }

abbrev pub swapping : System
swapping = updating (λ s. (0, value_at 1 s) ∷ (1, value_at 0 s) ∷ [])

both_sides_read_the_old_state : first_step swapping (initial swapping) 0 ≡ Some (with_values (pos 2 ∷ pos 1 ∷ []))
both_sides_read_the_old_state = refl

abbrev leaving_range : System
leaving_range = updating (λ s. (0, pos 3) ∷ [])

value_out_of_range_is_no_step : first_step leaving_range (initial leaving_range) 0 ≡ None
value_out_of_range_is_no_step = refl

-- there is no variable 2
abbrev assigning_to_none : System
assigning_to_none = updating (λ s. (2, pos 0) ∷ [])

value_for_no_variable_is_no_step : first_step assigning_to_none (initial assigning_to_none) 0 ≡ None
value_for_no_variable_is_no_step = refl

-- two values for one variable, of which the first counts
abbrev assigning_twice : System
assigning_twice = updating (λ s. (0, pos 0) ∷ (0, pos 2) ∷ [])

first_assigned_pair_wins : first_step assigning_twice (initial assigning_twice) 0 ≡ Some (with_values (pos 0 ∷ pos 2 ∷ []))
first_assigned_pair_wins = refl

-- an invariant that the state before a step does not meet, and the state after it does
abbrev mending : System
mending = record (updating (λ s. (0, pos 0) ∷ [])) { invariants = (λ s. int_le (value_at 0 s) (pos 0)) ∷ [] }

invariant_is_asked_after_the_step : first_step mending (initial mending) 0 ≡ Some (with_values (pos 0 ∷ pos 2 ∷ []))
invariant_is_asked_after_the_step = refl

-- of two invariants the state after the step meets one: the value is at most 0, and at least 1
abbrev breaking_one : Bool → System
breaking_one first =
    let low : State → Bool = λ s. int_le (value_at 0 s) (pos 0) in
    let high : State → Bool = λ s. int_le (pos 1) (value_at 0 s) in
    record mending { invariants = if first then high ∷ low ∷ [] else low ∷ high ∷ [] }

first_invariant_counts : first_step (breaking_one true) (initial mending) 0 ≡ None
first_invariant_counts = refl

second_invariant_counts : first_step (breaking_one false) (initial mending) 0 ≡ None
second_invariant_counts = refl

-- A channel: automaton 0 sends 2 from place 0, automata 1 and 2 receive it into variables 0 and 1.
abbrev receiver_into : ℕ → Automaton
receiver_into v = communicating 1 (record (role_edge receiving 0 0) { assigned = λ s r. (v, r) ∷ [] } ∷ [])

abbrev sending_to_two : System
sending_to_two =
    record (updating (λ s. [])) {
      automata = communicating 1 (record (role_edge sending 0 0) { sent = λ s. Some (pos 2) } ∷ []) ∷ receiver_into 0 ∷ receiver_into 1 ∷ [];
      events = channel_of unc (value_channel zero_to_two) ∷ [];
    }

abbrev in_first_places : List ℤ → State
in_first_places values = record { locs = 0 ∷ 0 ∷ 0 ∷ []; vals = values; ins = [] }

one_receives_and_the_lowest_first : choices sending_to_two 0 ≡ (Some 0 ∷ Some 0 ∷ None ∷ []) ∷ (Some 0 ∷ None ∷ Some 0 ∷ []) ∷ []
one_receives_and_the_lowest_first = refl

two_receivers_do_not_agree : agrees sending_to_two (initial sending_to_two) 0 (Some 0 ∷ Some 0 ∷ Some 0 ∷ []) ≡ false
two_receivers_do_not_agree = refl

no_sender_does_not_agree : agrees sending_to_two (initial sending_to_two) 0 (None ∷ Some 0 ∷ None ∷ []) ≡ false
no_sender_does_not_agree = refl

sent_value_reaches_the_receiver : first_step sending_to_two (initial sending_to_two) 0 ≡ Some (in_first_places (pos 2 ∷ pos 2 ∷ []))
sent_value_reaches_the_receiver = refl
