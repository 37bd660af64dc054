use Rattle.std.proofs.Common.{◌≡◌, ◌++◌, map, flat_map, drop}
use Rattle.cif_source.specs.Source.{location_tree}
use Rattle.cif_resolve_cycles.specs.Names.{location_needs}
use Rattle.cif_resolve_cycles.proofs.needs.add_locations.Given as goal

abbrev pub invariant-loop-loc : goal.invariant-loop-loc
invariant-loop-loc l = l.all ++ flat_map location_needs (map location_tree (drop l.loc-index l.locs)) ≡ l.fn.all ++ flat_map location_needs (map location_tree l.locs)
