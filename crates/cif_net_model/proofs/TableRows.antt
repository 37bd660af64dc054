-- Worked examples of roles, choices and their tests over more than one event.
use Rattle.std.proofs.Common.{◌≡◌, ℕ, ◌+◌, ◌*◌, pos, Bool, true, false, List, [], ◌∷◌, map, Option, Some, None, refl}
use Rattle.std.specs.List.{list_all}
use Rattle.cif_system.specs.System.{State, initial, con, unc, sending, receiving}
use Rattle.cif_system.specs.Choices.{first_step, all_choices}
use Rattle.cif_net_expr.specs.Tree.{ne, lt, le, gt, NetExpr, net_expr, n_loc, n_var, n_alg, n_received, n_not, n_product, divided, no_net_factors, net_factors, n_if, no_net_branches, net_branches, net_choose, no_net_updates, net_updates, no_net_update_branches, net_update_branches}
use Rattle.cif_net_model.specs.Net.{by_loc, no_net_chan, void_net_chan, Net}
use Rattle.cif_net_model.specs.Meaning.{system_of_net, true_in}
use Rattle.cif_net_model.specs.Facts.{is_net}
use Rattle.cif_net_model.specs.Exprs.{all_exprs}
use Rattle.cif_net_model.specs.Inline.{by_places, net_replaced}
use Rattle.cif_net_model.proofs.FormRows.{nested}
use Rattle.cif_net_model.specs.Reads.{names_no_alg}
use Rattle.cif_net_model.specs.Counts.{nodes}
use Rattle.cif_net_model.specs.Listing.{NetChoice, roles_of, full_choices, linear_of, guarded_of}
use Rattle.cif_net_model.specs.Table.{choice_stands}
use Rattle.cif_net_model.specs.Rules.{is_plain}
use Rattle.cif_net_model.proofs.Examples.{here, sure, num, var, plus, compare, range_to, stored, event, set, edge, role_edge, auto, net_with, with_values, counter, channel, monitor, excluded, bounded, alg}

-- ---- two events

-- Event 0 adds 1 to n and event 1 takes 1 from it, and another automaton monitors event 1 alone. Event 1 needs that n is not
-- 0, and event 0 is disabled where n is 9.
abbrev pub two_events : Net
two_events = record (counter sure) {
  events = event unc no_net_chan ∷ event con no_net_chan ∷ [];
  autos = auto (0 ∷ 1 ∷ []) (edge sure (set 0 (plus (var 0) (num 1)) no_net_updates) (0 ∷ []) ∷ record (edge sure (set 0 (num 0) no_net_updates) (0 ∷ [])) { event = 1 } ∷ [])
      ∷ record (auto (0 ∷ 1 ∷ []) (edge sure no_net_updates [] ∷ edge (compare (var 0) lt (num 5)) no_net_updates [] ∷ record (edge (compare (var 0) gt (num 5)) no_net_updates []) { event = 1 } ∷ [])) { monitors = 1 ∷ [] } ∷ [];
  exclusions = record { event = 1; pred = compare (var 0) ne (num 0); allows = true } ∷ record { event = 0; pred = here (n_not (compare (var 0) lt (num 9))); allows = false } ∷ [];
  invariants = record { pred = compare (var 0) le (num 10); at = 7 } ∷ [];
}

two_events_is_plain : is_plain two_events ≡ true
two_events_is_plain = refl

two_events_roles : roles_of two_events ≡ record { syncs = 0 ∷ 1 ∷ []; monitors = []; sends = []; receives = [] } ∷ record { syncs = 0 ∷ 1 ∷ []; monitors = 1 ∷ []; sends = []; receives = [] } ∷ []
two_events_roles = refl

-- each exclusion is about its own event
at_no_number : map (first_step (system_of_net two_events) (with_values (0 ∷ 0 ∷ []) (pos 0 ∷ []))) (0 ∷ 1 ∷ []) ≡ Some (with_values (0 ∷ 0 ∷ []) (pos 1 ∷ [])) ∷ None ∷ []
at_no_number = refl

at_nine : map (first_step (system_of_net two_events) (with_values (0 ∷ 0 ∷ []) (pos 9 ∷ []))) (0 ∷ 1 ∷ []) ≡ None ∷ Some (with_values (0 ∷ 0 ∷ []) (pos 0 ∷ [])) ∷ []
at_nine = refl

abbrev edges_of_choices : Net → List (ℕ × List (Option ℕ))
edges_of_choices n = full_choices n (guarded_of n)

-- two choices of event 0, and two of event 1, where the monitor stays last
in_order : edges_of_choices two_events ≡ (0, Some 0 ∷ Some 0 ∷ []) ∷ (0, Some 0 ∷ Some 1 ∷ []) ∷ (1, Some 1 ∷ Some 2 ∷ []) ∷ (1, Some 1 ∷ None ∷ []) ∷ []
in_order = refl

abbrev tests : Net → State → List Bool
tests n s = map (λ c. true_in n s c.test) (guarded_of n)

tests_at_no_number : tests two_events (with_values (0 ∷ 0 ∷ []) (pos 0 ∷ [])) ≡ true ∷ true ∷ false ∷ false ∷ []
tests_at_no_number = refl

tests_at_four : tests two_events (with_values (0 ∷ 0 ∷ []) (pos 4 ∷ [])) ≡ true ∷ true ∷ false ∷ true ∷ []
tests_at_four = refl

tests_at_nine : tests two_events (with_values (0 ∷ 0 ∷ []) (pos 9 ∷ [])) ≡ false ∷ false ∷ true ∷ false ∷ []
tests_at_nine = refl

-- each choice: itself, two parties, its guards and right sides, the exclusions of its event, and the invariant
two_events_nodes : nodes two_events ≡ (1 + 2 + (1 + 3 + 1) + 4 + 3) + (1 + 2 + (1 + 3 + 3) + 4 + 3) + (1 + 2 + (1 + 1 + 3) + 3 + 3) + (1 + 2 + (1 + 1) + 3 + 3)
two_events_nodes = refl

abbrev all_stand : Net → Bool
all_stand n = list_all (choice_stands n) (guarded_of n)

choices_stand : map all_stand (two_events ∷ channel ∷ bounded ∷ monitor true ∷ excluded ∷ []) ≡ true ∷ true ∷ true ∷ true ∷ true ∷ []
choices_stand = refl

-- the sender, the receiver and one that synchronises are three parties
abbrev heard : Net
heard = record channel {
  autos = auto [] (role_edge sending (Some (num 4)) no_net_updates (0 ∷ []) ∷ [])
      ∷ auto (0 ∷ []) (edge sure no_net_updates [] ∷ [])
      ∷ auto [] (role_edge receiving None (net_updates (net_choose (net_update_branches (compare (here n_received) gt (num 3)) (set 0 (here n_received) no_net_updates) no_net_update_branches) no_net_updates) no_net_updates) (0 ∷ []) ∷ [])
      ∷ [];
}

heard_is_plain : is_plain heard ≡ true
heard_is_plain = refl

heard_step : first_step (system_of_net heard) (initial (system_of_net heard)) 0 ≡ Some (with_values (0 ∷ 0 ∷ 0 ∷ []) (pos 4 ∷ []))
heard_step = refl

-- three guards, a sent value, a condition of three forms and a right side
heard_nodes : nodes heard ≡ 1 + 3 + (3 + 1 + 3 + 1)
heard_nodes = refl

-- no choice without a receiver, though one synchronises
unheard : all_choices (system_of_net (record channel { autos = auto [] (role_edge sending (Some (num 4)) no_net_updates (0 ∷ []) ∷ []) ∷ auto (0 ∷ []) (edge sure no_net_updates [] ∷ []) ∷ [] })) ≡ 0
unheard = refl

-- 2 edges of one sender and 1 of another, 2 of a receiver, and a monitor with an edge
abbrev many : Net
many = record channel {
  autos = auto [] (role_edge sending (Some (num 4)) no_net_updates (0 ∷ []) ∷ role_edge sending (Some (num 3)) no_net_updates (0 ∷ []) ∷ [])
      ∷ auto [] (role_edge sending (Some (num 4)) no_net_updates (0 ∷ []) ∷ [])
      ∷ record (auto (0 ∷ []) (edge sure no_net_updates [] ∷ [])) { monitors = 0 ∷ [] }
      ∷ auto [] (role_edge receiving None no_net_updates [] ∷ role_edge receiving None no_net_updates [] ∷ [])
      ∷ [];
}

many_choices : all_choices (system_of_net many) ≡ 3 * 2 * 2
many_choices = refl

many_nodes : nodes many ≡ 6 * (1 + 3 + (2 + 1 + 1)) + 6 * (1 + 3 + (2 + 1))
many_nodes = refl

-- ---- what a choice sends and assigns, and which invariants it asks

sent_values : map (λ c. c.sent) (linear_of many) ≡ map (λ z. Some (num z)) (4 ∷ 4 ∷ 4 ∷ 4 ∷ 3 ∷ 3 ∷ 3 ∷ 3 ∷ 4 ∷ 4 ∷ 4 ∷ 4 ∷ [])
sent_values = refl

-- those of automaton 0 and then those of automaton 1
writes_in_order : map (λ c. c.writes) (linear_of bounded) ≡ set 0 (plus (var 0) (num 3)) (set 1 (plus (var 1) (num 1)) no_net_updates) ∷ set 0 (plus (var 0) (num 1)) (set 1 (plus (var 1) (num 1)) no_net_updates) ∷ []
writes_in_order = refl

invariants_of_none : map (λ c. c.invariants) (linear_of bounded) ≡ [] ∷ [] ∷ []
invariants_of_none = refl

invariants_of_all : map (λ c. c.invariants) (guarded_of bounded) ≡ (0 ∷ []) ∷ (0 ∷ []) ∷ []
invariants_of_all = refl

-- a test of another kind, one that names an algebraic variable, one too deep, no variable to assign, a value that is sent
-- on no channel, and a divisor 0
abbrev first_choice : NetChoice
first_choice = record { event = 0; moves = record { auto = 0; edge = Some 0 } ∷ []; test = sure; sent = None; writes = no_net_updates; invariants = [] }

choices_that_fall : map (choice_stands (counter sure)) (
    first_choice
    ∷ record first_choice { test = num 1 }
    ∷ record first_choice { test = compare (here (n_alg 0)) lt (num 1) }
    ∷ record first_choice { test = compare (nested 102) lt (num 1) }
    ∷ record first_choice { test = compare (nested 103) lt (num 1) }
    ∷ record first_choice { writes = set 0 (num 1) no_net_updates }
    ∷ record first_choice { writes = set 1 (num 1) no_net_updates }
    ∷ record first_choice { sent = Some (num 1) }
    ∷ record first_choice { writes = set 0 (here (n_product (num 1) (net_factors divided (num 0) no_net_factors))) no_net_updates }
    ∷ []) ≡ true ∷ false ∷ false ∷ true ∷ false ∷ true ∷ false ∷ false ∷ false ∷ []
choices_that_fall = refl

-- ---- a void channel

abbrev void_step : Net
void_step = record (net_with (event con void_net_chan) (auto [] (role_edge sending None no_net_updates [] ∷ []) ∷ auto [] (role_edge receiving None (set 0 (num 1) no_net_updates) (0 ∷ []) ∷ []) ∷ [])) { vars = stored (range_to 4) 0 ∷ [] }

void_is_plain : is_plain void_step ≡ true
void_is_plain = refl

void_steps : first_step (system_of_net void_step) (initial (system_of_net void_step)) 0 ≡ Some (with_values (0 ∷ 0 ∷ []) (pos 1 ∷ []))
void_steps = refl

-- ---- replaced definitions

-- of three places, in their order
replaced_by_places : by_places 2 (net_expr (n_var 0) 7 ∷ net_expr (n_var 1) 8 ∷ net_expr (n_var 2) 9 ∷ []) ≡
    net_expr (n_if (net_branches (net_expr (n_loc 2 0) 7) (net_expr (n_var 0) 7) (net_branches (net_expr (n_loc 2 1) 8) (net_expr (n_var 1) 8) no_net_branches)) (net_expr (n_var 2) 9)) 7
replaced_by_places = refl

replaced_by_one : by_places 2 (num 5 ∷ []) ≡ num 5
replaced_by_one = refl

-- a net that names an algebraic variable wherever it may: in a guard, a sent value, a condition, a right side, a definition,
-- an exclusion and a state invariant
abbrev named : NetExpr
named = here (n_alg 0)

abbrev naming : Net
naming = record channel {
  autos = auto [] (record (role_edge sending (Some named) no_net_updates (0 ∷ [])) { guard = compare named lt (num 9) } ∷ [])
      ∷ auto [] (role_edge receiving None (net_updates (net_choose (net_update_branches (compare named lt (num 9)) (set 0 named no_net_updates) no_net_update_branches) (set 0 named no_net_updates)) no_net_updates) (0 ∷ 0 ∷ []) ∷ [])
      ∷ [];
  algs = alg (num 4) ∷ alg (plus named (num 1)) ∷ record (alg sure) { value = by_loc 0 (named ∷ []) } ∷ [];
  exclusions = record { event = 0; pred = compare named lt (num 9); allows = true } ∷ [];
  invariants = record { pred = compare named lt (num 9); at = 3 } ∷ [];
}

naming_is_net : is_net naming ≡ true
naming_is_net = refl

naming_is_not_plain : is_plain naming ≡ false
naming_is_not_plain = refl

replaced_everywhere : is_plain (net_replaced (λ k. num 4) naming) ≡ true
replaced_everywhere = refl

named_everywhere : list_all names_no_alg (all_exprs (net_replaced (λ k. num 4) naming)) ≡ true
named_everywhere = refl
