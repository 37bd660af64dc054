use Rattle.std.proofs.Common.{map}
use Rattle.cif_inst_sizes.specs.Definitions.{AreBlank, definition_tree}
use Rattle.cif_inst_sizes.proofs.weights.blanks.Given as goal

abbrev pub invariant-loop-number : goal.invariant-loop-number
invariant-loop-number l = AreBlank (map definition_tree l.all.items)
