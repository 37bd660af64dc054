use Rattle.std.proofs.Common.{◌≡◌, ◌++◌, map, drop}
use Rattle.cif_net.specs.View.{input_tree}
use Rattle.cif_inst.specs.Typing.{typed_source}
use Rattle.cif_inst.specs.Variables.{stored}
use Rattle.cif_inst.specs.Views.{datum_tree}
use Rattle.cif_inst.proofs.variables.all_inputs.Given as goal

abbrev pub invariant-loop-datum : goal.invariant-loop-datum
invariant-loop-datum l = map input_tree l.all ++ map (stored (typed_source l.typing)) (map datum_tree (drop l.datum-index l.found)) ≡ map (stored (typed_source l.typing)) (map datum_tree l.found)
