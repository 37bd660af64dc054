use Rattle.std.proofs.Common.{◌≡◌, ◌++◌, map, drop}
use Rattle.cif_source.specs.Source.{location_tree}
use Rattle.cif_inst.specs.Equations.{values_in, location_added}
use Rattle.cif_inst.proofs.equations.located_equations.Given as goal

abbrev pub invariant-loop-loc : goal.invariant-loop-loc
invariant-loop-loc l = map values_in l.all.items ++ map location_added (map location_tree (drop l.loc-index l.locs)) ≡ map location_added (map location_tree l.locs)
