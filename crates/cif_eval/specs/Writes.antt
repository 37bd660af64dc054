-- What updates, pairs and moves write.
use Rattle.std.specs.Prelude.{◌≡◌, ◌⊎◌, ℕ, ℤ, List, [], ◌∷◌, Option, None, Some, option_map, option_and_then, slice_get, slice_set}
use Rattle.cif_system.specs.System.{State}
use Rattle.cif_system.specs.Step.{new_values}
use Rattle.cif_net_expr.specs.Tree.{NetUpdate, NetUpdates, NetUpdateBranches}
use Rattle.cif_net_model.specs.Net.{Net, NetAuto, NetEdge}
use Rattle.cif_net_model.specs.Meaning.{net_assigned_all, net_assigned_by, net_assigned_in}
use Rattle.cif_net_model.specs.Listing.{NetChoice, NetMove, edge_at}
use Rattle.cif_eval.specs.Copies.{copied_invariants}

-- a net of nothing
abbrev pub nothing : Net
nothing = record { autos = []; events = []; inputs = []; vars = []; algs = []; exclusions = []; invariants = [] }

-- the pairs that updates assign where they name no algebraic variable
abbrev pub assigned_all : State → ℤ → NetUpdates → List (ℕ × ℤ)
assigned_all s r us = net_assigned_all nothing s r us

abbrev pub assigned_by : State → ℤ → NetUpdate → List (ℕ × ℤ)
assigned_by s r u = net_assigned_by nothing s r u

-- those of the first branch whose condition holds
abbrev pub assigned_in : State → ℤ → NetUpdateBranches → List (ℕ × ℤ)
assigned_in s r bs = net_assigned_in nothing s r [] bs

-- the place in which a move ends, if it takes an edge
abbrev pub end_of : List NetAuto → NetMove → Option ℕ
end_of autos m = option_map (λ (x : NetEdge). x.to) (option_and_then (λ (a : NetAuto). edge_at (a, m.edge)) (slice_get autos m.auto))

abbrev pub moved_to : List ℕ → ℕ → Option ℕ → List ℕ
moved_to places k None = places
moved_to places k (Some place) = slice_set places k place

-- the places after moves, one after the other
abbrev pub moved : List NetAuto → List NetMove → List ℕ → List ℕ
moved autos [] places = places
moved autos (m ∷ ms) places = moved autos ms (moved_to places m.auto (end_of autos m))

-- the state after moves and pairs
abbrev pub written : List NetAuto → List NetMove → List (ℕ × ℤ) → State → State
written autos ms ws s = record { locs = moved autos ms s.locs; vals = new_values ws 0 s.vals; ins = s.ins }

-- the state on which the state invariants of a choice are evaluated: what they name is copied from s to t, and then the choice
-- writes
abbrev pub worked : Net → NetChoice → List (ℕ × ℤ) → (s t : State) → State
worked n c ws s t = written n.autos c.moves ws (copied_invariants n.invariants c.invariants s t)

-- the working state t became that one, or it stayed
abbrev pub IsWorked : Net → NetChoice → List (ℕ × ℤ) → (s t u : State) → Type 0
IsWorked n c ws s t u = (u ≡ worked n c ws s t) ⊎ (u ≡ t)
