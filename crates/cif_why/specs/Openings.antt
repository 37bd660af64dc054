-- What each automaton can do for an event, and whether the moves of a choice are among it.
use Rattle.std.specs.Prelude.{ℕ, ◌+◌, Bool, false, not, ◌&&◌, nat_eq, List, [], ◌∷◌, map, Option, None, Some, slice_get, slice_index_or}
use Rattle.cif_system.specs.System.{syncing}
use Rattle.cif_net_model.specs.Net.{NetAuto, NetEdge}
use Rattle.cif_net_model.specs.Listing.{NetMove}
use Rattle.cif_net_model.specs.Safe.{Setting}
use Rattle.cif_why.specs.Parties.{can_take, true_at}
use Rattle.cif_why.specs.declared.openings.Opening.{Opening}

-- the edge is one for e, begins in the place, and its guard holds
abbrev pub is_ready : Setting → (e place : ℕ) → NetEdge → Bool
is_ready x e place y = nat_eq y.event e && nat_eq y.from place && true_at x y.guard

abbrev pub ready_edges : Setting → ℕ → (k : ℕ) → NetAuto → List Bool
ready_edges x e k a = map (is_ready x e (slice_index_or x.state.locs k 0)) a.edges

-- those of automata, of which the first has the number i
abbrev pub openings_from : Setting → ℕ → (i : ℕ) → List NetAuto → List Opening
openings_from x e i [] = []
openings_from x e i (a ∷ autos) = record { edges = ready_edges x e i a; syncs = can_take x syncing e i a } ∷ openings_from x e (i + 1) autos

-- it takes an enabled edge, or it stays and none that synchronises is enabled
abbrev pub allows : Opening → Option ℕ → Bool
allows o None = not o.syncs
allows o (Some y) = slice_index_or o.edges y false

abbrev pub move_allowed : Option Opening → Option ℕ → Bool
move_allowed None m = false
move_allowed (Some o) m = allows o m

abbrev pub move_ready : List Opening → NetMove → Bool
move_ready os m = move_allowed (slice_get os m.auto) m.edge
