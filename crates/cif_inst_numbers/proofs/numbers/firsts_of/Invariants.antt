use Rattle.std.proofs.Common.{◌≡◌}
use Rattle.cif_inst_numbers.specs.Counting.{before, firsts_to, AreFew}
use Rattle.cif_inst_numbers.proofs.numbers.firsts_of.Given as goal

abbrev pub invariant-loop-component : goal.invariant-loop-component
invariant-loop-component l = record {
  firsts : l.firsts ≡ firsts_to l.bodies l.components.all l.component;
  total : l.total ≡ before l.bodies l.components.all l.component;
  few : AreFew l.total;
}
