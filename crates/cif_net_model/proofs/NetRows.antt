-- Worked examples of what a net keeps: each list has one net that keeps it, and then nets that do not.
use Rattle.std.proofs.Common.{◌≡◌, ℕ, ℤ, pos, negsuc, true, false, List, [], ◌∷◌, map, Some, None, inl, inr, refl, arith}
use Rattle.std.specs.List.{range_with_len}
use Rattle.cif_base.specs.declared.types.Ty.{Ty}
use Rattle.cif_base.specs.declared.types.Ty.TheVariants as ty
use Rattle.cif_system.specs.System.{plain, unc, syncing, sending, receiving}
use Rattle.cif_net_expr.specs.Tree.{eq, ne, lt, le, gt, times, divided, NetExpr, net_expr, n_number, n_loc, n_input, n_alg, n_received, n_minus, n_plus, n_abs, n_min, n_max, n_not, n_product, n_and, n_or, n_implies, n_iff, n_if, n_compare, no_net_exprs, net_exprs, no_net_factors, net_factors, no_net_branches, net_branches, net_choose, no_net_updates, net_updates, no_net_update_branches, net_update_branches}
use Rattle.cif_net_model.specs.Net.{Text, NetChan, no_net_chan, void_net_chan, net_chan_of, NetEdge, NetStored, by_loc, Net}
use Rattle.cif_net_model.specs.Facts.{is_net, is_type, things}
use Rattle.cif_system.specs.Words.{one, more}
use Rattle.cif_net_model.specs.Rules.{is_plain, IsCyclic, AlgCycle, ZeroDivisor, TooWide, InvariantReadsInput, InvariantFalse, TooLarge}
use Rattle.cif_net_model.specs.Reads.{a_place, a_var, an_input, reads}
use Rattle.cif_net_model.specs.Counts.{depth}
use Rattle.cif_net_model.proofs.FormRows.{nested}
use Rattle.cif_net_model.proofs.CycleLaws.{acyclic-by_number}
use Rattle.cif_net_model.proofs.Examples.{here, sure, num, var, plus, compare, range_to, stored, event, set, edge, role_edge, auto, net_with, with_autos, counter, by_place, int_type, alg, algs_alone, updating, cycle, mixed}

-- ---- types and numbers

types : map is_type (ty.Int (negsuc 2147483647) (pos 2147483647) ∷ ty.Int (pos 3) (pos 3) ∷ ty.Enum 1 ∷ ty.Int (pos 3) (pos 2) ∷ ty.Int (negsuc 2147483648) (pos 0) ∷ ty.Int (pos 0) (pos 2147483648) ∷ ty.Enum 0 ∷ []) ≡ true ∷ true ∷ true ∷ false ∷ false ∷ false ∷ false ∷ []
types = refl

-- automata, their locations and edges, events, inputs, variables, algebraic variables, exclusions and state invariants
abbrev everything : Net
everything = record {
  autos = record (auto (0 ∷ []) (edge sure no_net_updates [] ∷ edge sure no_net_updates [] ∷ [])) { locs = [] ∷ [] ∷ [] ∷ [] } ∷ auto [] [] ∷ [];
  events = event unc no_net_chan ∷ [];
  inputs = stored int_type 0 ∷ stored int_type 0 ∷ [];
  vars = stored int_type 0 ∷ stored int_type 0 ∷ stored int_type 0 ∷ [];
  algs = alg (num 1) ∷ [];
  exclusions = record { event = 0; pred = sure; allows = true } ∷ [];
  invariants = record { pred = sure; at = 0 } ∷ record { pred = sure; at = 0 } ∷ record { pred = sure; at = 0 } ∷ record { pred = sure; at = 0 } ∷ [];
}

everything_counts : things everything ≡ 20
everything_counts = refl

-- ---- enumerations

abbrev red : Text
red = 114 ∷ []

abbrev green : Text
green = 103 ∷ []

abbrev colour : ℤ → List Text → NetStored
colour first literals = record { path = []; type_of = ty.Enum 2; first = first; literals = literals }

abbrev colours : NetStored → NetStored → NetExpr → Net
colours a b guard = record (with_autos (auto (0 ∷ []) (edge guard no_net_updates [] ∷ []) ∷ [])) { vars = a ∷ b ∷ stored int_type 0 ∷ [] }

abbrev red_green : NetStored
red_green = colour (pos 1) (red ∷ green ∷ [])

-- the same names in the same order are one type
same_enumerations : map (λ b. is_net (colours red_green b (compare (var 0) eq (var 1)))) (red_green ∷ colour (pos 0) (green ∷ red ∷ []) ∷ colour (pos 0) (red ∷ []) ∷ stored int_type 0 ∷ []) ≡ true ∷ false ∷ false ∷ false ∷ []
same_enumerations = refl

literals_of_two : map (λ z. is_net (colours red_green red_green (compare (var 0) ne (here (n_number z))))) (pos 0 ∷ pos 1 ∷ pos 2 ∷ negsuc 0 ∷ []) ≡ true ∷ true ∷ false ∷ false ∷ []
literals_of_two = refl

first_literals : map (λ z. is_net (colours red_green (colour z (red ∷ green ∷ [])) sure)) (pos 1 ∷ pos 2 ∷ negsuc 0 ∷ []) ≡ true ∷ false ∷ false ∷ []
first_literals = refl

no_order_on_literals : map (λ op. is_net (colours red_green red_green (compare (var 0) op (var 1)))) (eq ∷ lt ∷ le ∷ []) ≡ true ∷ false ∷ false ∷ []
no_order_on_literals = refl

literals_of_no_enumeration : is_net (record (counter sure) { vars = record (stored (range_to 10) 0) { literals = red ∷ [] } ∷ [] }) ≡ false
literals_of_no_enumeration = refl

-- ---- kinds of operands

kinds_of_guards : map (λ g. is_net (counter g)) (
    compare sure eq sure
    ∷ compare sure eq (num 1)
    ∷ here (n_not (num 1))
    ∷ here (n_and (net_exprs sure (net_exprs (var 0) no_net_exprs)))
    ∷ compare (plus (var 0) sure) lt (num 1)
    ∷ compare (here (n_product (var 0) (net_factors times sure no_net_factors))) lt (num 1)
    ∷ compare (here (n_minus sure)) lt (num 1)
    ∷ here (n_if (net_branches sure sure no_net_branches) (num 1))
    ∷ here (n_if (net_branches (num 1) sure no_net_branches) sure)
    ∷ here (n_if (net_branches sure sure no_net_branches) sure)
    ∷ []) ≡ true ∷ false ∷ false ∷ false ∷ false ∷ false ∷ false ∷ false ∷ false ∷ true ∷ []
kinds_of_guards = refl

-- ---- numbers of things

named_in_guards : map (λ g. is_net (record by_place { autos = record (auto (0 ∷ []) (edge g no_net_updates [] ∷ [])) { locs = [] ∷ [] ∷ [] } ∷ [] })) (
    here (n_loc 0 1) ∷ here (n_loc 0 2) ∷ here (n_loc 1 0) ∷ compare (here (n_input 0)) lt (num 1) ∷ compare (here (n_alg 0)) lt (num 1) ∷ compare (here (n_alg 1)) lt (num 1) ∷ []) ≡ true ∷ false ∷ false ∷ false ∷ true ∷ false ∷ []
named_in_guards = refl

abbrev plain_edge : NetEdge
plain_edge = edge sure no_net_updates []

numbers_of_edges : map (λ x. is_net (with_autos (auto (0 ∷ []) (x ∷ []) ∷ []))) (plain_edge ∷ record plain_edge { event = 1 } ∷ record plain_edge { from = 1 } ∷ record plain_edge { to = 1 } ∷ []) ≡ true ∷ false ∷ false ∷ false ∷ []
numbers_of_edges = refl

numbers_of_automata : map (λ a. is_net (with_autos (a ∷ []))) (
    record (auto (0 ∷ []) []) { monitors = 0 ∷ [] }
    ∷ auto (1 ∷ []) []
    ∷ record (auto [] []) { monitors = 0 ∷ [] }
    ∷ record (auto [] []) { first = 1 }
    ∷ record (auto [] []) { locs = [] }
    ∷ []) ≡ true ∷ false ∷ false ∷ false ∷ false ∷ []
numbers_of_automata = refl

assigned_numbers : map (λ v. is_net (updating (set v (num 1) no_net_updates) (0 ∷ []))) (0 ∷ 1 ∷ []) ≡ true ∷ false ∷ []
assigned_numbers = refl

excluded_events : map (λ e. is_net (record (counter sure) { exclusions = record { event = e; pred = sure; allows = true } ∷ [] })) (0 ∷ 1 ∷ []) ≡ true ∷ false ∷ []
excluded_events = refl

predicates : map (λ p. is_net (record (counter sure) { exclusions = record { event = 0; pred = p; allows = true } ∷ [] })) (sure ∷ num 1 ∷ []) ≡ true ∷ false ∷ []
predicates = refl

state_invariants : map (λ p. is_net (record (counter sure) { invariants = record { pred = p; at = 0 } ∷ [] })) (sure ∷ num 1 ∷ here n_received ∷ []) ≡ true ∷ false ∷ false ∷ []
state_invariants = refl

-- ---- algebraic variables

alg_values : map (λ a. is_net (record by_place { algs = a ∷ [] })) (
    record (alg sure) { value = by_loc 0 (num 5 ∷ num 6 ∷ []) }
    ∷ record (alg sure) { value = by_loc 0 (num 5 ∷ []) }
    ∷ record (alg sure) { value = by_loc 0 (num 5 ∷ num 6 ∷ num 7 ∷ []) }
    ∷ record (alg sure) { value = by_loc 0 (num 5 ∷ sure ∷ []) }
    ∷ record (alg sure) { value = by_loc 1 [] }
    ∷ alg sure
    ∷ record (alg sure) { type_of = ty.Bool }
    ∷ record (alg (num 1)) { type_of = ty.Int (pos 1) (pos 0) }
    ∷ []) ≡ true ∷ false ∷ false ∷ false ∷ false ∷ false ∷ true ∷ false ∷ []
alg_values = refl

-- its range is not enforced
alg_outside_its_range : is_plain (algs_alone [] (record (alg (num 5)) { type_of = ty.Int (pos 0) (pos 1) } ∷ [])) ≡ true
alg_outside_its_range = refl

-- ---- updates

-- of two branches one is taken; in a branch and beside it is twice
assigned_twice : map (λ us. is_net (updating us (0 ∷ 0 ∷ []))) (
    net_updates (net_choose (net_update_branches sure (set 0 (num 1) no_net_updates) no_net_update_branches) (set 0 (num 2) no_net_updates)) no_net_updates
    ∷ net_updates (net_choose (net_update_branches sure (set 0 (num 1) no_net_updates) no_net_update_branches) no_net_updates) (set 0 (num 2) no_net_updates)
    ∷ set 0 (num 2) (net_updates (net_choose (net_update_branches sure no_net_updates no_net_update_branches) (set 0 (num 1) no_net_updates)) no_net_updates)
    ∷ net_updates (net_choose (net_update_branches sure (set 0 (num 1) (set 0 (num 2) no_net_updates)) no_net_update_branches) no_net_updates) no_net_updates
    ∷ []) ≡ true ∷ false ∷ false ∷ false ∷ []
assigned_twice = refl

conditions : map (λ c. is_net (updating (net_updates (net_choose (net_update_branches c no_net_updates no_net_update_branches) no_net_updates) no_net_updates) [])) (sure ∷ num 1 ∷ here n_received ∷ []) ≡ true ∷ false ∷ false ∷ []
conditions = refl

assigned_kinds : map (λ e. is_net (updating (set 0 e no_net_updates) (0 ∷ []))) (num 1 ∷ sure ∷ here n_received ∷ []) ≡ true ∷ false ∷ false ∷ []
assigned_kinds = refl

-- ---- channels

abbrev one_edge : NetChan → List ℕ → NetEdge → Net
one_edge h alphabet x = record (net_with (event plain h) (auto alphabet (x ∷ []) ∷ [])) { vars = stored (range_to 9) 0 ∷ [] }

abbrev numbers : NetChan
numbers = net_chan_of (range_to 9)

-- a value is sent on a channel for values, and none on a void one or an event that is no channel
sends : map (λ h. is_net (one_edge h [] (role_edge sending (Some (num 1)) no_net_updates (0 ∷ [])))) (numbers ∷ void_net_chan ∷ no_net_chan ∷ net_chan_of ty.Bool ∷ []) ≡ true ∷ false ∷ false ∷ false ∷ []
sends = refl

sends_nothing : map (λ h. is_net (one_edge h [] (role_edge sending None no_net_updates []))) (numbers ∷ void_net_chan ∷ no_net_chan ∷ []) ≡ false ∷ true ∷ false ∷ []
sends_nothing = refl

sends_received : is_net (one_edge numbers [] (role_edge sending (Some (here n_received)) no_net_updates (0 ∷ []))) ≡ false
sends_received = refl

receives : map (λ h. is_net (one_edge h [] (role_edge receiving None no_net_updates []))) (numbers ∷ void_net_chan ∷ no_net_chan ∷ []) ≡ true ∷ true ∷ false ∷ []
receives = refl

uses_received : map (λ h. is_net (one_edge h [] (role_edge receiving None (set 0 (here n_received) no_net_updates) (0 ∷ [])))) (numbers ∷ void_net_chan ∷ net_chan_of ty.Bool ∷ []) ≡ true ∷ false ∷ false ∷ []
uses_received = refl

receiver_sends_nothing : is_net (one_edge numbers [] (role_edge receiving (Some (num 1)) no_net_updates (0 ∷ []))) ≡ false
receiver_sends_nothing = refl

-- a plain use fits every event, sends nothing and receives nothing
synchronises : map (λ h. is_net (one_edge h (0 ∷ []) (role_edge syncing None no_net_updates []))) (numbers ∷ void_net_chan ∷ no_net_chan ∷ []) ≡ true ∷ true ∷ true ∷ []
synchronises = refl

only_synchronises : map (λ x. is_net (one_edge numbers (0 ∷ []) x)) (role_edge syncing (Some (num 1)) no_net_updates (0 ∷ []) ∷ role_edge syncing None (set 0 (here n_received) no_net_updates) (0 ∷ []) ∷ []) ≡ false ∷ false ∷ []
only_synchronises = refl

-- an event of the alphabet is neither sent nor received
two_roles : map (λ x. is_net (one_edge numbers (0 ∷ []) x)) (role_edge sending (Some (num 1)) no_net_updates (0 ∷ []) ∷ role_edge receiving None no_net_updates [] ∷ []) ≡ false ∷ false ∷ []
two_roles = refl

channel_types : map (λ t. is_net (one_edge (net_chan_of t) [] (role_edge receiving None no_net_updates []))) (ty.Bool ∷ ty.Enum 2 ∷ ty.Int (pos 1) (pos 0) ∷ ty.Enum 0 ∷ []) ≡ true ∷ true ∷ false ∷ false ∷ []
channel_types = refl

-- ---- rules

-- a state invariant reads an input through an algebraic variable, whatever its value
abbrev by_an_input : Net
by_an_input = record (algs_alone (stored int_type 0 ∷ []) (alg (here (n_input 0)) ∷ [])) { invariants = record { pred = compare (here (n_alg 0)) eq (here (n_alg 0)); at = 5 } ∷ [] }

reads_an_input : InvariantReadsInput by_an_input 5
reads_an_input = (acyclic-by_number by_an_input refl, _, inl refl, refl, refl)

-- the place is that of the invariant, also for the second one
abbrev second_is_false : Net
second_is_false = record (counter sure) { invariants = record { pred = sure; at = 3 } ∷ record { pred = net_expr (n_compare (var 0) gt (num 0)) 8; at = 9 } ∷ [] }

second_false : InvariantFalse second_is_false 9
second_false = (acyclic-by_number second_is_false refl, _, inr (inl refl), refl, refl, refl)

not_plain : map is_plain (second_is_false ∷ record (counter sure) { inputs = stored int_type 0 ∷ []; invariants = record { pred = compare (here (n_input 0)) le (num 0); at = 0 } ∷ [] } ∷ []) ≡ false ∷ false ∷ []
not_plain = refl

-- by what is received, which may be 0
abbrev by_received : Ty → Net
by_received t = one_edge (net_chan_of t) [] (role_edge receiving None (set 0 (here (n_product (num 9) (net_factors divided (net_expr n_received 4) no_net_factors))) no_net_updates) (0 ∷ []))

divides_by_received : ZeroDivisor (by_received (range_to 9)) 4
divides_by_received = (acyclic-by_number (by_received (range_to 9)) refl, _, _, inr (inl refl), inl refl, refl, refl)

received_is_plain : map (λ t. is_plain (by_received t)) (ty.Int (pos 1) (pos 9) ∷ range_to 9 ∷ []) ≡ true ∷ false ∷ []
received_is_plain = refl

-- in a guard, an exclusion, a state invariant and an algebraic variable, though no edge is for the event
abbrev by_zero : NetExpr
by_zero = compare (here (n_product (num 1) (net_factors divided (num 0) no_net_factors))) eq (num 0)

zero_divisors : map is_plain (
    counter by_zero
    ∷ record (counter sure) { exclusions = record { event = 0; pred = by_zero; allows = true } ∷ [] }
    ∷ record (counter sure) { invariants = record { pred = by_zero; at = 0 } ∷ [] }
    ∷ record (counter sure) { algs = record (alg by_zero) { type_of = ty.Bool } ∷ [] }
    ∷ updating (net_updates (net_choose (net_update_branches by_zero no_net_updates no_net_update_branches) no_net_updates) no_net_updates) []
    ∷ []) ≡ false ∷ false ∷ false ∷ false ∷ false ∷ []
zero_divisors = refl

-- ---- rules that are not due

abbrev both_false : Net
both_false = record (algs_alone (record { path = []; type_of = ty.Bool; first = pos 0; literals = [] } ∷ []) []) { invariants = record { pred = here (n_input 0); at = 4 } ∷ [] }

-- it is false, but it reads an input
reads_it_alone : InvariantFalse both_false 4 → ⊥
reads_it_alone (a, i, inl refl, p, q, r) = absurd cc
reads_it_alone (a, i, inr m, p, q, r) = m

-- two that name one another, and one of which all other rules are broken
abbrev broken : Net
broken = record cycle { invariants = record { pred = here (n_and (net_exprs by_zero (net_exprs (here (n_input 0)) no_net_exprs))); at = 4 } ∷ [] }

abbrev is_cyclic : IsCyclic broken 0
is_cyclic = more (_, refl, inl refl) (one (_, refl, inl refl))

not_in_a_cycle : ((at : ℕ) → ZeroDivisor broken at → ⊥) × ((at : ℕ) → TooWide broken at → ⊥) × ((at : ℕ) → InvariantReadsInput broken at → ⊥) × ((at : ℕ) → InvariantFalse broken at → ⊥) × ((a b : ℕ) → TooLarge broken a b → ⊥)
not_in_a_cycle = (λ at h. h.0 0 is_cyclic, λ at h. h.0 0 is_cyclic, λ at h. h.0 0 is_cyclic, λ at h. h.0 0 is_cyclic, λ a b h. h.0 0 is_cyclic)

not_the_second : AlgCycle cycle 1 → ⊥
not_the_second h = h.1 0 (omega arith) (more (_, refl, inl refl) (one (_, refl, inl refl)))

-- a net that is not one, and one whose depth is 101
other_nets_are_not_plain : map is_plain (mixed ∷ counter (compare (nested 99) lt (num 1)) ∷ counter (compare (nested 100) lt (num 1)) ∷ []) ≡ false ∷ true ∷ false ∷ []
other_nets_are_not_plain = refl

-- the depth is that of each expression that is evaluated
depth_anywhere : map (λ n. depth n) (
    counter (compare (nested 9) lt (num 1))
    ∷ updating (set 0 (nested 8) no_net_updates) (0 ∷ [])
    ∷ updating (net_updates (net_choose (net_update_branches (compare (nested 7) lt (num 1)) no_net_updates no_net_update_branches) no_net_updates) no_net_updates) []
    ∷ one_edge numbers [] (role_edge sending (Some (nested 6)) no_net_updates (0 ∷ []))
    ∷ record (counter sure) { exclusions = record { event = 0; pred = compare (nested 5) lt (num 1); allows = true } ∷ [] }
    ∷ record (counter sure) { invariants = record { pred = compare (nested 4) lt (num 2); at = 0 } ∷ [] }
    ∷ []) ≡ 10 ∷ 8 ∷ 8 ∷ 6 ∷ 6 ∷ 5 ∷ []
depth_anywhere = refl

more_kinds : map (λ g. is_net (counter g)) (
    here (n_iff sure (num 1)) ∷ here (n_implies sure (num 1)) ∷ here (n_implies (num 1) sure) ∷ here (n_or (net_exprs sure (net_exprs (num 1) no_net_exprs)))
    ∷ compare (here (n_min (num 1) sure)) lt (num 1) ∷ compare (here (n_max (num 1) sure)) lt (num 1) ∷ compare (here (n_abs sure)) lt (num 1) ∷ compare (here (n_plus sure)) lt (num 1)
    ∷ []) ≡ false ∷ false ∷ false ∷ false ∷ false ∷ false ∷ false ∷ false ∷ []
more_kinds = refl

-- automata 1 and 2 assign one variable
assigned_by_two : is_net (with_autos (auto (0 ∷ []) [] ∷ auto (0 ∷ []) (edge sure (set 0 (num 1) no_net_updates) (0 ∷ []) ∷ []) ∷ auto (0 ∷ []) (edge sure (set 0 (num 1) no_net_updates) (0 ∷ []) ∷ []) ∷ [])) ≡ false
assigned_by_two = refl

-- what each location's definition reads, and the automaton that decides
reads_by_location : reads (record by_place { algs = record (alg sure) { value = by_loc 0 (var 0 ∷ here (n_input 2) ∷ []) } ∷ [] }) (here (n_alg 0)) ≡ a_place 0 ∷ a_var 0 ∷ an_input 2 ∷ []
reads_by_location = refl

-- one thing more than a net may have
too_many_things : is_net (algs_alone (map (λ k. stored ty.Bool 0) (range_with_len 0 100001)) []) ≡ false
too_many_things = refl
