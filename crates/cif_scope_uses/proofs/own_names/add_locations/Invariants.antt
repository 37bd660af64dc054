use Rattle.std.proofs.Common.{◌≡◌, ◌++◌, map, flat_map, drop}
use Rattle.cif_source.specs.Source.{location_tree}
use Rattle.cif_source.specs.Uses.{location_own_names}
use Rattle.cif_scope_uses.specs.Views.{own_name_of}
use Rattle.cif_scope_uses.proofs.own_names.add_locations.Given as goal

abbrev pub invariant-loop-loc : goal.invariant-loop-loc
invariant-loop-loc l = map own_name_of l.found.items ++ flat_map location_own_names (map location_tree (drop l.loc-index l.all)) ≡ map own_name_of l.fn.found.items ++ flat_map location_own_names (map location_tree l.all)
