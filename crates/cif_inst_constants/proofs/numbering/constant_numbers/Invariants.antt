use Rattle.std.proofs.Common.{◌≡◌}
use Rattle.cif_inst_constants.specs.Numbers.{total_to, rows_to}
use Rattle.cif_inst_constants.proofs.numbering.constant_numbers.Given as goal

abbrev pub invariant-loop-body : goal.invariant-loop-body
invariant-loop-body l = record {
  all : l.all ≡ rows_to l.scopes l.used l.body;
  total : l.total ≡ total_to l.scopes l.used l.body;
}
