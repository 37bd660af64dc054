use Rattle.std.proofs.Common.{◌≡◌, map}
use Rattle.cif_scope.specs.Written.{body_of_written}
use Rattle.cif_inst_numbers.specs.Counting.{all_ranks_to, all_counts_to}
use Rattle.cif_inst_numbers.proofs.bodies.all_bodies.Given as goal

abbrev pub invariant-loop-body : goal.invariant-loop-body
invariant-loop-body l = record {
  ranks : l.ranks ≡ all_ranks_to l.scopes l.body;
  counts : l.counts ≡ all_counts_to l.scopes (map body_of_written l.written) l.body;
}
