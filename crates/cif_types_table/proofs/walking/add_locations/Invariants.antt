use Rattle.std.proofs.Common.{◌≡◌, ◌++◌, map, flat_map, drop}
use Rattle.cif_source.specs.Source.{location_tree}
use Rattle.cif_types_table.specs.Layouts.{slot_tree, location_slots}
use Rattle.cif_types_table.proofs.walking.add_locations.Given as goal

abbrev pub invariant-loop-loc : goal.invariant-loop-loc
invariant-loop-loc l = map slot_tree l.slots ++ flat_map location_slots (map location_tree (drop l.loc-index l.locs)) ≡ map slot_tree l.fn.slots ++ flat_map location_slots (map location_tree l.locs)
