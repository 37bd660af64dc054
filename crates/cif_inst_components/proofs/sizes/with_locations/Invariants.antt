use Rattle.std.proofs.Common.{◌≡◌, ◌+◌, ◌≤◌, map, drop}
use Rattle.cif_source.specs.Source.{location_tree}
use Rattle.cif_inst_components.specs.Sizes.{stop, locations_size}
use Rattle.cif_inst_components.proofs.sizes.with_locations.Given as goal

abbrev pub invariant-loop-loc : goal.invariant-loop-loc
invariant-loop-loc l = (l.count ≤ 100001) × (stop (l.count + locations_size (map location_tree (drop l.loc-index l.locs))) ≡ stop (l.fn.count + locations_size (map location_tree l.locs)))
