use Rattle.std.proofs.Common.{◌≡◌, ◌≤◌}
use Rattle.cif_inst_constants.specs.Numbers.{count_to, row_to}
use Rattle.cif_inst_constants.proofs.numbering.body_numbers.Given as goal

abbrev pub invariant-loop-slot : goal.invariant-loop-slot
invariant-loop-slot l = record {
  row : l.row ≡ row_to l.scopes l.body l.first l.slot;
  count : l.count ≡ count_to l.scopes l.body l.slot;
  small : l.count ≤ l.slot;
}
