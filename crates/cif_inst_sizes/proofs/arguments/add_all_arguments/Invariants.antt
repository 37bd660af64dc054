use Rattle.std.proofs.Common.{◌≡◌, ◌++◌, map, drop}
use Rattle.cif_inst_parameters.specs.Given.{given_items}
use Rattle.cif_inst_sizes.specs.Definitions.{definition_tree}
use Rattle.cif_inst_sizes.specs.Naming.{all_arguments}
use Rattle.cif_inst_sizes.proofs.arguments.add_all_arguments.Given as goal

abbrev pub invariant-loop-of_component : goal.invariant-loop-of_component
invariant-loop-of_component l = map definition_tree l.all.items ++ all_arguments (map given_items (drop l.of_component-index l.given)) ≡ map definition_tree l.fn.all.items ++ all_arguments (map given_items l.given)
