use Rattle.std.proofs.Common.{◌≡◌, ◌++◌, map, drop}
use Rattle.cif_inst_sizes.specs.Definitions.{definition_tree}
use Rattle.cif_inst.specs.Definitions.{definition_with}
use Rattle.cif_inst.specs.Equations.{values_in}
use Rattle.cif_inst.specs.Views.{datum_tree}
use Rattle.cif_inst.proofs.definitions.add_data.Given as goal

abbrev pub invariant-loop-datum : goal.invariant-loop-datum
invariant-loop-datum l =
    map definition_tree l.all.items ++ map (definition_with (values_in l.defined.own) (map values_in l.defined.located.items)) (map datum_tree (drop l.datum-index l.found))
    ≡ map definition_tree l.fn.all.items ++ map (definition_with (values_in l.defined.own) (map values_in l.defined.located.items)) (map datum_tree l.found)
