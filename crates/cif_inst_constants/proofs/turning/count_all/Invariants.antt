use Rattle.std.proofs.Common.{◌≡◌}
use Rattle.cif_inst_constants.specs.Turns.{counted_to}
use Rattle.cif_inst_constants.proofs.turning.count_all.Given as goal

abbrev pub invariant-loop-component : goal.invariant-loop-component
invariant-loop-component l = l.all ≡ counted_to l.counts l.components.all l.component
