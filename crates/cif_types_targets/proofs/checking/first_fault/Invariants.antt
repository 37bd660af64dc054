use Rattle.std.proofs.Common.{◌≡◌, map, drop}
use Rattle.cif_scope.specs.Written.{body_of_written}
use Rattle.cif_types_targets.specs.Faults.{faults_from}
use Rattle.cif_types_targets.proofs.checking.first_fault.Given as goal

abbrev pub invariant-loop-body : goal.invariant-loop-body
invariant-loop-body l = faults_from l.scopes 0 (map body_of_written l.written) ≡ faults_from l.scopes l.body (map body_of_written (drop l.body l.written))
