-- Nets written by hand.
use Rattle.std.specs.Prelude.{ℕ, Bool, suc, pred, ℤ, pos, true, false, nat_eq, List, [], ◌∷◌, map, Option, Some, None, if◌then◌else◌}
use Rattle.std.specs.List.{range_with_len}
use Rattle.cif_base.specs.declared.types.Ty.{Ty}
use Rattle.cif_base.specs.declared.types.Ty.TheVariants as ty
use Rattle.cif_system.specs.System.{State, Class, plain, con, unc, Role, syncing, sending, receiving}
use Rattle.cif_net_expr.specs.Tree.{CmpOp, eq, lt, le, times, divided, modulo, NetExpr, net_expr, NetForm, n_truth, n_number, n_var, n_input, n_alg, n_received, n_minus, n_sum, n_product, n_compare, no_net_terms, net_terms, no_net_factors, net_factors, net_set, net_choose, NetUpdates, no_net_updates, net_updates, no_net_update_branches, net_update_branches}
use Rattle.cif_net_model.specs.Net.{NetChan, no_net_chan, net_chan_of, NetEdge, NetAuto, NetEvent, NetStored, one_value, by_loc, NetAlg, Net}

-- ---- expressions, with no place told

abbrev pub here : NetForm → NetExpr
here f = net_expr f 0

abbrev pub sure : NetExpr
sure = here (n_truth true)

abbrev pub num : ℕ → NetExpr
num n = here (n_number (pos n))

abbrev pub var : ℕ → NetExpr
var k = here (n_var k)

abbrev pub plus : NetExpr → NetExpr → NetExpr
plus a b = here (n_sum a (net_terms false b no_net_terms))

abbrev pub compare : NetExpr → CmpOp → NetExpr → NetExpr
compare a op b = here (n_compare a op b)

-- ---- the parts of a net

abbrev pub range_to : ℕ → Ty
range_to n = ty.Int (pos 0) (pos n)

abbrev pub stored : Ty → ℕ → NetStored
stored t first = record { path = []; type_of = t; first = pos first; literals = [] }

abbrev pub event : Class → NetChan → NetEvent
event c h = record { path = []; class = c; chan = h }

abbrev pub set : ℕ → NetExpr → NetUpdates → NetUpdates
set v e us = net_updates (net_set v e) us

-- an edge for event 0 from place 0 to itself
abbrev pub edge : NetExpr → NetUpdates → List ℕ → NetEdge
edge guard us places = record { event = 0; role = syncing; from = 0; to = 0; guard = guard; sent = None; updates = us; places = places }

abbrev pub role_edge : Role → Option NetExpr → NetUpdates → List ℕ → NetEdge
role_edge p sent us places = record (edge sure us places) { role = p; sent = sent }

-- an automaton of one place
abbrev pub auto : List ℕ → List NetEdge → NetAuto
auto alphabet edges = record { path = []; locs = [] ∷ []; first = 0; alphabet = alphabet; monitors = []; edges = edges }

-- one event, and automata
abbrev pub net_with : NetEvent → List NetAuto → Net
net_with e autos = record { autos = autos; events = e ∷ []; inputs = []; vars = []; algs = []; exclusions = []; invariants = [] }

abbrev pub with_values : List ℕ → List ℤ → State
with_values ls vs = record { locs = ls; vals = vs; ins = [] }

-- ---- nets

-- `n := n + 1` for n from 0 to 10
abbrev pub counter : NetExpr → Net
counter guard = record (net_with (event unc no_net_chan) (auto (0 ∷ []) (edge guard (set 0 (plus (var 0) (num 1)) no_net_updates) (79 ∷ []) ∷ []) ∷ [])) { vars = stored (range_to 10) 0 ∷ [] }

-- two automata send 5 and 4, and one receives what is at most 4
abbrev pub channel : Net
channel = record (net_with (event plain (net_chan_of (range_to 9)))
    (auto [] (role_edge sending (Some (num 5)) no_net_updates (0 ∷ []) ∷ [])
    ∷ auto [] (role_edge sending (Some (num 4)) no_net_updates (0 ∷ []) ∷ [])
    ∷ auto [] (role_edge receiving None (set 0 (here n_received) no_net_updates) (0 ∷ []) ∷ [])
    ∷ [])) { vars = stored (range_to 4) 0 ∷ [] }

-- one automaton sends and receives
abbrev pub mixed : Net
mixed = net_with (event plain (net_chan_of (range_to 9))) (auto [] (role_edge sending (Some (num 1)) no_net_updates (0 ∷ []) ∷ role_edge receiving None no_net_updates [] ∷ []) ∷ [])

-- x grows by 3 or by 1 and y by 1, and x + y is at most 3
abbrev pub bounded : Net
bounded = record (net_with (event con no_net_chan)
    (auto (0 ∷ []) (edge sure (set 0 (plus (var 0) (num 3)) no_net_updates) (0 ∷ []) ∷ edge sure (set 0 (plus (var 0) (num 1)) no_net_updates) (0 ∷ []) ∷ [])
    ∷ auto (0 ∷ []) (edge sure (set 1 (plus (var 1) (num 1)) no_net_updates) (0 ∷ []) ∷ [])
    ∷ [])) {
      vars = stored (range_to 9) 0 ∷ stored (range_to 9) 1 ∷ [];
      invariants = record { pred = compare (plus (var 0) (var 1)) le (num 3); at = 208 } ∷ [];
    }

-- `x := x div y`, where y is from the least number to 3
abbrev pub division : ℕ → Net
division least = record (net_with (event plain no_net_chan)
    (auto (0 ∷ []) (edge sure (set 0 (net_expr (n_product (net_expr (n_var 0) 92) (net_factors divided (net_expr (n_var 1) 98) no_net_factors)) 92) no_net_updates) (87 ∷ []) ∷ []) ∷ []))
    { vars = stored (range_to 9) 0 ∷ stored (ty.Int (pos least) (pos 3)) least ∷ [] }

abbrev pub int_type : Ty
int_type = ty.Int (ℤ.negsuc 2147483647) (pos 2147483647)

abbrev pub alg : NetExpr → NetAlg
alg e = record { path = []; type_of = int_type; literals = []; value = one_value e }

-- algebraic variables alone
abbrev pub algs_alone : List NetStored → List NetAlg → Net
algs_alone inputs algs = record { autos = []; events = []; inputs = inputs; vars = []; algs = algs; exclusions = []; invariants = [] }

-- an integer input times itself and itself again
abbrev pub cube : Net
cube = algs_alone (stored int_type 0 ∷ [])
    (alg (net_expr (n_product (net_expr (n_input 0) 25) (net_factors times (net_expr (n_input 0) 29) (net_factors times (net_expr (n_input 0) 33) no_net_factors))) 25) ∷ [])

-- two that name one another
abbrev pub cycle : Net
cycle = algs_alone [] (alg (here (n_alg 1)) ∷ alg (here (n_alg 0)) ∷ [])

-- 1, and then each is twice the one before it
abbrev pub double : ℕ → NetAlg
double k = alg (if nat_eq k 0 then num 1 else plus (here (n_alg (pred k))) (here (n_alg (pred k))))

abbrev pub doubled : ℕ → Net
doubled k = algs_alone [] (map double (range_with_len 0 (suc k)))

-- three automata, each with so many edges for one event
abbrev pub crowd : ℕ → Net
crowd k = net_with (event unc no_net_chan) (map (λ v. auto (0 ∷ []) (map (λ j. edge sure no_net_updates []) (range_with_len 0 k))) (range_with_len 0 3))

-- three automata, each of which copies the input, by one edge for each of its numbers
abbrev pub copies : ℕ → Net
copies k = record (net_with (event unc no_net_chan)
    (map (λ v. auto (0 ∷ []) (map (λ j. edge (compare (here (n_input 0)) eq (num j)) (set v (num j) no_net_updates) (0 ∷ [])) (range_with_len 0 k))) (range_with_len 0 3)))
    { inputs = stored (range_to (pred k)) 0 ∷ []; vars = map (λ v. stored (range_to (pred k)) 0) (range_with_len 0 3) }

-- a state invariant over a boolean input, and one that is false
abbrev pub with_invariant : NetExpr → ℕ → Net
with_invariant p at = record (algs_alone (record { path = []; type_of = ty.Bool; first = pos 1; literals = [] } ∷ []) []) { invariants = record { pred = p; at = at } ∷ [] }

-- automaton 0 goes from p to q; automaton 1 monitors the event, and counts where its guard holds
abbrev pub monitor : Bool → Net
monitor b = record (net_with (event con no_net_chan)
    (record (auto (0 ∷ []) (record (edge sure no_net_updates []) { to = 1 } ∷ [])) { locs = (112 ∷ []) ∷ (113 ∷ []) ∷ [] }
    ∷ record (auto (0 ∷ []) (edge (here (n_truth b)) (set 0 (plus (var 0) (num 1)) no_net_updates) (0 ∷ []) ∷ [])) { monitors = 0 ∷ [] }
    ∷ [])) { vars = stored (range_to 5) 0 ∷ [] }

-- 1 and 2 change places
abbrev pub swap : Net
swap = record (net_with (event con no_net_chan) (auto (0 ∷ []) (edge sure (set 0 (var 1) (set 1 (var 0) no_net_updates)) (0 ∷ 0 ∷ []) ∷ []) ∷ [])) { vars = stored int_type 1 ∷ stored int_type 2 ∷ [] }

-- -7 by 2, divided and the remainder
abbrev pub quotients : Net
quotients =
    let seven : NetExpr = here (n_minus (num 7)) in
    algs_alone [] (alg (here (n_product seven (net_factors divided (num 2) no_net_factors))) ∷ alg (here (n_product seven (net_factors modulo (num 2) no_net_factors))) ∷ [])

-- an automaton of two places, and an algebraic variable with a value for each
abbrev pub by_place : Net
by_place = record (net_with (event con no_net_chan)
    (record (auto (0 ∷ []) (record (edge sure no_net_updates []) { to = 1 } ∷ [])) { locs = (112 ∷ []) ∷ (113 ∷ []) ∷ [] } ∷ []))
    { algs = record (alg sure) { value = by_loc 0 (num 5 ∷ plus (num 1) (num 2) ∷ []) } ∷ [] }

-- the counter, for which the event needs that n is below 5 and is disabled where n is 3
abbrev pub excluded : Net
excluded = record (counter sure) { exclusions = record { event = 0; pred = compare (var 0) lt (num 5); allows = true } ∷ record { event = 0; pred = compare (var 0) eq (num 3); allows = false } ∷ [] }

-- below 5 n grows, and else it is 0
abbrev pub choosing : Net
choosing = record (counter sure) {
  autos = auto (0 ∷ [])
      (edge sure (net_updates (net_choose (net_update_branches (compare (var 0) lt (num 5)) (set 0 (plus (var 0) (num 1)) no_net_updates) no_net_update_branches) (set 0 (num 0) no_net_updates)) no_net_updates) (0 ∷ 0 ∷ []) ∷ [])
      ∷ [];
}

-- the counter with other automata
abbrev pub with_autos : List NetAuto → Net
with_autos autos = record (counter sure) { autos = autos }

-- one automaton, whose edge has these updates
abbrev pub updating : NetUpdates → List ℕ → Net
updating us places = with_autos (auto (0 ∷ []) (edge sure us places ∷ []) ∷ [])

-- the automaton of two places with a state invariant
abbrev pub invariant_by_place : NetExpr → Net
invariant_by_place p = record by_place { invariants = record { pred = p; at = 0 } ∷ [] }
