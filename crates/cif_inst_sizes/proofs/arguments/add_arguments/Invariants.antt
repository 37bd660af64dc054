use Rattle.std.proofs.Common.{◌≡◌, ◌++◌, map, drop}
use Rattle.cif_inst_sizes.specs.Definitions.{definition_tree}
use Rattle.cif_inst_sizes.specs.Naming.{arguments_tree}
use Rattle.cif_inst_sizes.proofs.arguments.add_arguments.Given as goal

abbrev pub invariant-loop-one : goal.invariant-loop-one
invariant-loop-one l = map definition_tree l.all.items ++ arguments_tree (drop l.one-index l.given) ≡ map definition_tree l.fn.all.items ++ arguments_tree l.given
