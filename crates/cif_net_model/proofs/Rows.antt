-- Worked examples of the definitions, each by computing.
use Rattle.std.proofs.Common.{◌≡◌, ◌+◌, ◌*◌, pos, negsuc, Bool, true, false, List, [], ◌∷◌, map, Some, None, inl, inr, refl, arith}
use Rattle.cif_system.specs.System.{State, initial, outputs}
use Rattle.cif_system.specs.Choices.{first_step, all_choices}
use Rattle.cif_system.specs.Scan.{exact_scan}
use Rattle.cif_net_expr.specs.Tree.{eq, lt, times, divided, modulo, n_truth, n_input, n_alg, n_loc, n_received, no_net_updates}
use Rattle.cif_net_model.specs.Net.{Net}
use Rattle.cif_net_model.specs.Meaning.{system_of_net, true_in}
use Rattle.cif_net_model.specs.Interval.{point, between, mul_ranges, abs_range, interval}
use Rattle.cif_net_model.specs.Facts.{is_net}
use Rattle.cif_net_model.specs.Counts.{nodes, measure, most_choices}
use Rattle.cif_net_model.specs.Shown.{is_shown}
use Rattle.cif_net_model.specs.Separable.{is_separable}
use Rattle.cif_net_model.specs.Listing.{roles_of, full_choices, linear_of, guarded_of, listed}
use Rattle.cif_net_model.specs.Table.{agrees_in}
use Rattle.cif_system.specs.Words.{one, more, Exceeds}
use Rattle.cif_net_model.specs.Rules.{AlgCycle, ZeroDivisor, TooWide, InvariantReadsInput, InvariantFalse, TooLarge, is_plain}
use Rattle.cif_net_model.proofs.CycleLaws.{acyclic-by_number}
use Rattle.cif_net_model.proofs.Examples.{here, sure, num, var, compare, with_values, counter, channel, mixed, bounded, division, cube, cycle, doubled, crowd, copies, with_invariant, monitor, swap, quotients, by_place, excluded, choosing, with_autos, updating, invariant_by_place, auto, edge, set, stored, range_to}

-- a counter up to 10: three steps a scan, until a step would leave the range
counted : exact_scan (system_of_net (counter sure)) (initial (system_of_net (counter sure))) [] 3 100 ≡ with_values (0 ∷ []) (pos 3 ∷ [])
counted = refl

counted_up : exact_scan (system_of_net (counter sure)) (with_values (0 ∷ []) (pos 9 ∷ [])) [] 3 100 ≡ with_values (0 ∷ []) (pos 10 ∷ [])
counted_up = refl

counter_is_plain : is_plain (counter sure) ≡ true
counter_is_plain = refl

-- `n := n + 1` is shown under the guard `n < 10` alone
not_shown : is_shown (counter sure) 0 0 0 ≡ false
not_shown = refl

shown : is_shown (counter (compare (var 0) lt (num 10))) 0 0 0 ≡ true
shown = refl

shown_turned : is_shown (counter (compare (num 10) lt (var 0))) 0 0 0 ≡ true
shown_turned = refl

-- the second sender's value is received, since the first one's leaves the range
sent_over : first_step (system_of_net channel) (initial (system_of_net channel)) 0 ≡ Some (with_values (0 ∷ 0 ∷ 0 ∷ []) (pos 4 ∷ []))
sent_over = refl

channel_is_plain : is_plain channel ≡ true
channel_is_plain = refl

channel_roles : roles_of channel ≡ record { syncs = []; monitors = []; sends = 0 ∷ 1 ∷ []; receives = 2 ∷ [] } ∷ []
channel_roles = refl

one_automaton_has_one_role : is_net mixed ≡ false
one_automaton_has_one_role = refl

-- the invariant forbids the first edge, and then every edge
kept : first_step (system_of_net bounded) (initial (system_of_net bounded)) 0 ≡ Some (with_values (0 ∷ 0 ∷ []) (pos 1 ∷ pos 2 ∷ []))
kept = refl

kept_last : first_step (system_of_net bounded) (with_values (0 ∷ 0 ∷ []) (pos 1 ∷ pos 2 ∷ [])) 0 ≡ None
kept_last = refl

kept_scan : exact_scan (system_of_net bounded) (initial (system_of_net bounded)) [] 100 100 ≡ with_values (0 ∷ 0 ∷ []) (pos 1 ∷ pos 2 ∷ [])
kept_scan = refl

bounded_is_plain : is_plain bounded ≡ true
bounded_is_plain = refl

-- its event assigns what the invariant reads
not_separable : is_separable bounded 0 ≡ false
not_separable = refl

listed_whole : full_choices bounded (guarded_of bounded) ≡ listed (system_of_net bounded)
listed_whole = refl

listed_channel : full_choices channel (linear_of channel) ≡ listed (system_of_net channel)
listed_channel = refl

-- a divisor that may be 0, and one that is not
zero_divisor : ZeroDivisor (division 0) 98
zero_divisor = (acyclic-by_number (division 0) refl, _, _, inr (inl refl), inl refl, refl, refl)

division_is_plain : is_plain (division 1) ≡ true
division_is_plain = refl

division_is_not_plain : is_plain (division 0) ≡ false
division_is_not_plain = refl

-- three factors of 32 bits leave 64 bits at the last
too_wide : TooWide cube 25
too_wide = (acyclic-by_number cube refl, _, _, inl refl, inr (inr (inr (inl refl))), refl, refl)

cube_is_not_plain : is_plain cube ≡ false
cube_is_not_plain = refl

alg_cycle : AlgCycle cycle 0
alg_cycle = (more (_, refl, inl refl) (one (_, refl, inl refl)), λ k h c. absurd (omega (arith, h)))

reads_input : InvariantReadsInput (with_invariant (here (n_input 0)) 24) 24
reads_input = (acyclic-by_number (with_invariant (here (n_input 0)) 24) refl, _, inl refl, refl, refl)

false_first : InvariantFalse (with_invariant (here (n_truth false)) 10) 10
false_first = (acyclic-by_number (with_invariant (here (n_truth false)) 10) refl, _, inl refl, refl, refl, refl)

-- thirty algebraic variables that double
too_large : TooLarge (doubled 30) 1000001 30
too_large = (acyclic-by_number (doubled 30) refl, refl, refl, refl)

-- 26 edges of each of three automata
too_many : Exceeds most_choices (all_choices (system_of_net (crowd 26))) 16385
too_many = (omega arith, refl)

crowd_count : all_choices (system_of_net (crowd 26)) ≡ 17576
crowd_count = refl

copies_count : all_choices (system_of_net (copies 25)) ≡ 15625
copies_count = refl

copies_separable : is_separable (copies 25) 0 ≡ true
copies_separable = refl

copies_is_net : is_net (copies 25) ≡ true
copies_is_net = refl

-- each choice of three: itself, three parties, and for each party a guard of three forms and a right side of one
copies_nodes : nodes (copies 3) ≡ 27 * (1 + 3 + 3 * 4)
copies_nodes = refl

swapped : first_step (system_of_net swap) (initial (system_of_net swap)) 0 ≡ Some (with_values (0 ∷ []) (pos 2 ∷ pos 1 ∷ []))
swapped = refl

swap_is_plain : is_plain swap ≡ true
swap_is_plain = refl

-- a monitor without an open edge stays, and one with an open edge takes it
monitor_stays : first_step (system_of_net (monitor false)) (initial (system_of_net (monitor false))) 0 ≡ Some (with_values (1 ∷ 0 ∷ []) (pos 0 ∷ []))
monitor_stays = refl

monitor_moves : first_step (system_of_net (monitor true)) (initial (system_of_net (monitor true))) 0 ≡ Some (with_values (1 ∷ 0 ∷ []) (pos 1 ∷ []))
monitor_moves = refl

monitor_roles : roles_of (monitor true) ≡ record { syncs = 0 ∷ 1 ∷ []; monitors = 1 ∷ []; sends = []; receives = [] } ∷ []
monitor_roles = refl

-- whether each choice's test holds, and whether the choice agrees

abbrev tested : Net → State → List Bool
tested n s = map (λ c. true_in n s c.test) (linear_of n)

abbrev agreeing : Net → State → List Bool
agreeing n s = map (agrees_in n s) (linear_of n)

monitor_edge_first : tested (monitor true) (with_values (0 ∷ 0 ∷ []) (pos 0 ∷ [])) ≡ true ∷ false ∷ []
monitor_edge_first = refl

monitor_edge_agrees : agreeing (monitor true) (with_values (0 ∷ 0 ∷ []) (pos 0 ∷ [])) ≡ true ∷ false ∷ []
monitor_edge_agrees = refl

monitor_last : tested (monitor false) (with_values (0 ∷ 0 ∷ []) (pos 0 ∷ [])) ≡ false ∷ true ∷ []
monitor_last = refl

monitor_last_agrees : agreeing (monitor false) (with_values (0 ∷ 0 ∷ []) (pos 0 ∷ [])) ≡ false ∷ true ∷ []
monitor_last_agrees = refl

channel_tests : tested channel (initial (system_of_net channel)) ≡ agreeing channel (initial (system_of_net channel))
channel_tests = refl

-- `div` truncates towards zero, and `mod` has the sign of the dividend
quotient : (outputs (system_of_net quotients) (initial (system_of_net quotients))).algs ≡ negsuc 2 ∷ negsuc 0 ∷ []
quotient = refl

quotients_are_plain : is_plain quotients ≡ true
quotients_are_plain = refl

-- by location: the value, the interval, and five and two forms under one more
first_place : (outputs (system_of_net by_place) (with_values (0 ∷ []) [])).algs ≡ pos 5 ∷ []
first_place = refl

last_place : (outputs (system_of_net by_place) (with_values (1 ∷ []) [])).algs ≡ pos 3 ∷ []
last_place = refl

joined_places : interval by_place (point (pos 0)) (here (n_alg 0)) ≡ between (pos 3) (pos 5)
joined_places = refl

places_measured : measure by_place (here (n_alg 0)) ≡ record { size = 6; depth = 2 }
places_measured = refl

by_place_is_net : is_net by_place ≡ true
by_place_is_net = refl

-- ---- intervals

product_bounds : mul_ranges times (between (negsuc 1) (pos 3)) (between (negsuc 3) (pos 5)) ≡ between (negsuc 11) (pos 15)
product_bounds = refl

quotient_bounds : mul_ranges divided (between (negsuc 6) (pos 9)) (between (pos 2) (pos 3)) ≡ between (negsuc 2) (pos 4)
quotient_bounds = refl

remainder_bounds : mul_ranges modulo (between (negsuc 6) (pos 5)) (between (pos 2) (pos 4)) ≡ between (negsuc 2) (pos 3)
remainder_bounds = refl

small_remainder : mul_ranges modulo (between (pos 0) (pos 2)) (between (pos 5) (pos 5)) ≡ between (pos 0) (pos 2)
small_remainder = refl

abs_over_zero : abs_range (between (negsuc 2) (pos 2)) ≡ between (pos 0) (pos 3)
abs_over_zero = refl

abs_below_zero : abs_range (between (negsuc 2) (negsuc 1)) ≡ between (pos 2) (pos 3)
abs_below_zero = refl

-- ---- exclusions and updates with conditions

needs_holds : first_step (system_of_net excluded) (with_values (0 ∷ []) (pos 4 ∷ [])) 0 ≡ Some (with_values (0 ∷ []) (pos 5 ∷ []))
needs_holds = refl

needs_fails : first_step (system_of_net excluded) (with_values (0 ∷ []) (pos 5 ∷ [])) 0 ≡ None
needs_fails = refl

disabled : first_step (system_of_net excluded) (with_values (0 ∷ []) (pos 3 ∷ [])) 0 ≡ None
disabled = refl

abbrev guarded : Net → State → List Bool
guarded n s = map (λ c. true_in n s c.test) (guarded_of n)

guard_holds : guarded excluded (with_values (0 ∷ []) (pos 4 ∷ [])) ≡ true ∷ []
guard_holds = refl

guard_fails : guarded excluded (with_values (0 ∷ []) (pos 3 ∷ [])) ≡ false ∷ []
guard_fails = refl

-- the choice, its edge and the party are two, two exclusions of three forms, a guard and a right side of three
excluded_nodes : nodes excluded ≡ 1 + 1 + (1 + 3) + (3 + 3)
excluded_nodes = refl

first_branch : first_step (system_of_net choosing) (with_values (0 ∷ []) (pos 4 ∷ [])) 0 ≡ Some (with_values (0 ∷ []) (pos 5 ∷ []))
first_branch = refl

last_branch : first_step (system_of_net choosing) (with_values (0 ∷ []) (pos 5 ∷ [])) 0 ≡ Some (with_values (0 ∷ []) (pos 0 ∷ []))
last_branch = refl

choosing_is_plain : is_plain choosing ≡ true
choosing_is_plain = refl

-- ---- what a net does not keep

guard_of_another_kind : is_net (counter (num 1)) ≡ false
guard_of_another_kind = refl

number_of_more_bits : is_net (counter (compare (var 0) lt (num 2147483648))) ≡ false
number_of_more_bits = refl

no_such_variable : is_net (counter (compare (var 1) lt (num 1))) ≡ false
no_such_variable = refl

received_in_a_guard : is_net (counter (compare (here n_received) lt (num 1))) ≡ false
received_in_a_guard = refl

one_update_a_variable : is_net (updating (set 0 (num 1) no_net_updates) (0 ∷ [])) ≡ true
one_update_a_variable = refl

two_updates_of_a_variable : is_net (updating (set 0 (num 1) (set 0 (num 1) no_net_updates)) (0 ∷ 0 ∷ [])) ≡ false
two_updates_of_a_variable = refl

a_place_for_each_value : is_net (updating (set 0 (num 1) no_net_updates) []) ≡ false
a_place_for_each_value = refl

event_outside_the_alphabet : is_net (with_autos (auto [] (edge sure no_net_updates [] ∷ []) ∷ [])) ≡ false
event_outside_the_alphabet = refl

variable_of_two_automata : is_net (with_autos (auto (0 ∷ []) (edge sure (set 0 (num 1) no_net_updates) (0 ∷ []) ∷ []) ∷ auto (0 ∷ []) (edge sure (set 0 (num 2) no_net_updates) (0 ∷ []) ∷ []) ∷ [])) ≡ false
variable_of_two_automata = refl

first_value_outside : is_net (record (counter sure) { vars = stored (range_to 10) 11 ∷ [] }) ≡ false
first_value_outside = refl

-- a net that names an algebraic variable is not plain
names_an_alg : is_plain (invariant_by_place (compare (here (n_alg 0)) lt (num 9))) ≡ false
names_an_alg = refl

-- ---- what a state invariant depends on

leaves_its_place : is_separable (invariant_by_place (here (n_loc 0 0))) 0 ≡ false
leaves_its_place = refl

leaves_a_place_that_decides : is_separable (invariant_by_place (compare (here (n_alg 0)) lt (num 9))) 0 ≡ false
leaves_a_place_that_decides = refl

leaves_no_place_that_is_read : is_separable (invariant_by_place sure) 0 ≡ true
leaves_no_place_that_is_read = refl

-- ---- ranges under a guard

shown_by_equality : is_shown (counter (compare (var 0) eq (num 9))) 0 0 0 ≡ true
shown_by_equality = refl

not_shown_by_less : is_shown (counter (compare (var 0) lt (num 11))) 0 0 0 ≡ false
not_shown_by_less = refl

shown_by_no_number : is_shown (counter (compare (var 0) lt (num 0))) 0 0 0 ≡ true
shown_by_no_number = refl
