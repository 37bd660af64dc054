use Rattle.std.proofs.Common.{◌≡◌}
use Rattle.cif_inst_numbers.specs.Counting.{counts_to, ranks_to}
use Rattle.cif_inst_numbers.proofs.bodies.ranks_of.Given as goal

abbrev pub invariant-loop-slot : goal.invariant-loop-slot
invariant-loop-slot l = record {
  ranks : l.ranks ≡ ranks_to l.scopes l.body l.slot;
  counts : l.counts ≡ counts_to l.scopes l.body l.slot;
}
