use Rattle.std.proofs.Common.{◌≡◌, ◌++◌, map, drop}
use Rattle.cif_inst_sizes.specs.Definitions.{value_tree}
use Rattle.cif_inst.specs.Equations.{value_for, values_in}
use Rattle.cif_inst.proofs.definitions.located_values.Given as goal

abbrev pub invariant-loop-there : goal.invariant-loop-there
invariant-loop-there l = map value_tree l.all.items ++ map (value_for l.name) (map values_in (drop l.there-index l.located)) ≡ map (value_for l.name) (map values_in l.located)
