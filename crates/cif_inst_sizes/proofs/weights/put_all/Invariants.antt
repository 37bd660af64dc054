use Rattle.std.proofs.Common.{map}
use Rattle.cif_inst_sizes.specs.Definitions.{definition_tree}
use Rattle.cif_inst_sizes.specs.Weights.{IsWeighed}
use Rattle.cif_inst_sizes.proofs.weights.put_all.Given as goal

abbrev pub invariant-loop-number : goal.invariant-loop-number
invariant-loop-number l = IsWeighed l.looking (map definition_tree l.definitions) l.weights
