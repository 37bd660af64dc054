use Rattle.std.proofs.Common.{◌≤◌}
use Rattle.cif_inst_sizes.proofs.WeightLaws.{AreTaken}
use Rattle.cif_inst_sizes.proofs.weights.Weights.algebraic.Given as goal

abbrev pub invariant-loop-number : goal.invariant-loop-number
invariant-loop-number l = AreTaken l.self.table l.number l.all × (l.number ≤ l.self.count)
