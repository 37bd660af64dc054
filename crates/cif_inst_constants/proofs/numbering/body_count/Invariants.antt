use Rattle.std.proofs.Common.{◌≡◌, ◌≤◌}
use Rattle.cif_inst_constants.specs.Numbers.{count_to}
use Rattle.cif_inst_constants.proofs.numbering.body_count.Given as goal

abbrev pub invariant-loop-slot : goal.invariant-loop-slot
invariant-loop-slot l = record {
  count : l.count ≡ count_to l.scopes l.body l.slot;
  small : l.count ≤ l.slot;
}
