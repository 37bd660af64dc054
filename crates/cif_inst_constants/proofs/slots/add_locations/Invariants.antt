use Rattle.std.proofs.Common.{◌≡◌, ◌++◌, map, flat_map, drop}
use Rattle.cif_source.specs.Source.{location_tree}
use Rattle.cif_inst_constants.specs.Slots.{row_of, location_slots}
use Rattle.cif_inst_constants.proofs.slots.add_locations.Given as goal

abbrev pub invariant-loop-loc : goal.invariant-loop-loc
invariant-loop-loc l = row_of l.row ++ flat_map location_slots (map location_tree (drop l.loc-index l.locs)) ≡ row_of l.fn.row ++ flat_map location_slots (map location_tree l.locs)
