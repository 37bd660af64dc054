-- What the choices of an event name, and states that are the same there.
use Rattle.std.specs.Prelude.{◌≡◌, pos, List, ◌∷◌, ◌++◌, flat_map, option_to_list, slice_index_or}
use Rattle.cif_system.specs.System.{State}
use Rattle.cif_net_model.specs.Exprs.{updates_exprs}
use Rattle.cif_net_model.specs.Listing.{NetChoice}
use Rattle.cif_net_model.specs.Net.{NetInvariant, Net}
use Rattle.cif_net_model.specs.Reads.{Read, a_var, an_input, an_alg, a_place, the_received, names_in}

-- what the test of a choice, its sent value and its updates name
abbrev pub choice_names : NetChoice → List Read
choice_names c = flat_map names_in (c.test ∷ (option_to_list c.sent ++ updates_exprs c.writes))

-- what the state invariants name
abbrev pub invariant_names : Net → List Read
invariant_names n = flat_map (λ (i : NetInvariant). names_in i.pred) n.invariants

-- two states are the same there
abbrev pub SameAt : State → State → Read → Type 0
SameAt s t (a_var k) = slice_index_or s.vals k (pos 0) ≡ slice_index_or t.vals k (pos 0)
SameAt s t (an_input k) = slice_index_or s.ins k (pos 0) ≡ slice_index_or t.ins k (pos 0)
SameAt s t (an_alg k) = Unit {0}
SameAt s t (a_place k) = slice_index_or s.locs k 0 ≡ slice_index_or t.locs k 0
SameAt s t the_received = Unit {0}
