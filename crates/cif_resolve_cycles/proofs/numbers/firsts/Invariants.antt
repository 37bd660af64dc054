use Rattle.std.proofs.Common.{◌≡◌}
use Rattle.cif_resolve_cycles.specs.Names.{names_before, firsts_to}
use Rattle.cif_resolve_cycles.proofs.numbers.firsts.Given as goal

abbrev pub invariant-loop-body : goal.invariant-loop-body
invariant-loop-body l = record {
  all : l.all ≡ firsts_to l.scopes.table.scopes l.body;
  count : l.count ≡ names_before l.scopes.table.scopes l.body;
}
