use Rattle.std.proofs.Common.{◌≡◌, ◌++◌, map, drop}
use Rattle.cif_inst_parameters.specs.Given.{given_items}
use Rattle.cif_inst_sizes.specs.Naming.{firsts_from}
use Rattle.cif_inst_sizes.proofs.arguments.firsts_of.Given as goal

abbrev pub invariant-loop-of_component : goal.invariant-loop-of_component
invariant-loop-of_component l = l.firsts ++ firsts_from l.next (map given_items (drop l.of_component-index l.given)) ≡ firsts_from l.fn.first (map given_items l.given)
