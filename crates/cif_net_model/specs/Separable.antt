-- The events that are no channel and whose edges leave alone what the state invariants depend on.
use Rattle.std.specs.Prelude.{ℕ, Bool, true, false, not, ◌&&◌, ◌||◌, nat_eq, List, flat_map}
use Rattle.std.specs.List.{list_all, list_any, enumerate_from}
use Rattle.cif_net_model.specs.Net.{NetChan, no_net_chan, NetEdge, NetAuto, NetInvariant, Net}
use Rattle.cif_net_model.specs.Exprs.{targets}
use Rattle.cif_net_model.specs.Facts.{channel_of}
use Rattle.cif_net_model.specs.Reads.{Read, a_var, a_place, reads}

abbrev pub is_no_channel : NetChan → Bool
is_no_channel no_net_chan = true
is_no_channel _ = false

abbrev pub is_var : ℕ → Read → Bool
is_var k (a_var v) = nat_eq v k
is_var k _ = false

abbrev pub is_place : ℕ → Read → Bool
is_place k (a_place a) = nat_eq a k
is_place k _ = false

-- what the state invariants depend on
abbrev pub read_by_invariants : Net → List Read
read_by_invariants n = flat_map (λ (i : NetInvariant). reads n i.pred) n.invariants

abbrev pub leaves : NetEdge → Bool
leaves x = not (nat_eq x.to x.from)

-- the edge of automaton k assigns such a variable, or leaves such a location
abbrev pub touches : List Read → ℕ → NetEdge → Bool
touches rs k x = list_any (λ v. list_any (is_var v) rs) (targets x.updates) || (leaves x && list_any (is_place k) rs)

abbrev pub touches_none : List Read → ℕ → ℕ × NetAuto → Bool
touches_none rs e (k, a) = list_all (λ (x : NetEdge). not (nat_eq x.event e) || not (touches rs k x)) a.edges

abbrev pub is_separable : Net → ℕ → Bool
is_separable n e = is_no_channel (channel_of n e) && list_all (touches_none (read_by_invariants n) e) (enumerate_from 0 n.autos)
