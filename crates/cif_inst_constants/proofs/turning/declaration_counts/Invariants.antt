use Rattle.std.proofs.Common.{◌≡◌, ◌++◌, map, drop}
use Rattle.cif_scope.specs.Written.{body_of_written}
use Rattle.cif_inst_constants.specs.Turns.{declaration_count}
use Rattle.cif_inst_constants.proofs.turning.declaration_counts.Given as goal

abbrev pub invariant-loop-one : goal.invariant-loop-one
invariant-loop-one l = l.counts ++ map declaration_count (map body_of_written (drop l.one-index l.written)) ≡ map declaration_count (map body_of_written l.written)
