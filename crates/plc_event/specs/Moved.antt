-- Helper of the code: the edges that automata take in moves.
use Rattle.std.specs.Prelude.{ℕ, Bool, List, Option, is_some, option_and_then, slice_get}
use Rattle.cif_net_model.specs.Listing.{NetMove, edge_at, edge_in}
use Rattle.cif_net_model.specs.Net.{NetEdge, NetAuto, Net}

-- the edge of automaton k
abbrev pub taken_by : Net → List NetMove → ℕ → Option NetEdge
taken_by n ms k = option_and_then (λ (a : NetAuto). edge_at (a, edge_in ms k)) (slice_get n.autos k)

abbrev pub takes_edge : Net → List NetMove → ℕ → Bool
takes_edge n ms k = is_some (taken_by n ms k)
