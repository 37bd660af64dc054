use Rattle.std.proofs.Common.{◌≡◌, ◌++◌, map, flat_map, drop}
use Rattle.cif_source.specs.Source.{location_tree}
use Rattle.cif_source.specs.Uses.{location_uses}
use Rattle.cif_scope_uses.specs.Views.{use_of}
use Rattle.cif_scope_uses.proofs.automata.add_locations.Given as goal

abbrev pub invariant-loop-loc : goal.invariant-loop-loc
invariant-loop-loc l = map use_of l.found.items ++ flat_map location_uses (map location_tree (drop l.loc-index l.all)) ≡ map use_of l.fn.found.items ++ flat_map location_uses (map location_tree l.all)
