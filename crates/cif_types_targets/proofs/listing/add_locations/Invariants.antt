use Rattle.std.proofs.Common.{◌≡◌, ◌++◌, map, flat_map, drop}
use Rattle.cif_source.specs.Source.{location_tree}
use Rattle.cif_types_targets.specs.Assigned.{location_lists}
use Rattle.cif_types_targets.specs.Views.{list_of}
use Rattle.cif_types_targets.proofs.listing.add_locations.Given as goal

abbrev pub invariant-loop-loc : goal.invariant-loop-loc
invariant-loop-loc l = map list_of l.found.items ++ flat_map location_lists (map location_tree (drop l.loc-index l.all)) ≡ map list_of l.fn.found.items ++ flat_map location_lists (map location_tree l.all)
