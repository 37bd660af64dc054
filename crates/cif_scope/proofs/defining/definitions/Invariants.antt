use Rattle.std.proofs.Common.{◌≡◌, ◌++◌, map, drop}
use Rattle.cif_scope.specs.Written.{body_of_written, definitions_from}
use Rattle.cif_scope.proofs.defining.definitions.Given as goal

abbrev pub invariant-loop-body : goal.invariant-loop-body
invariant-loop-body l = l.all ++ definitions_from l.table l.body (map body_of_written (drop l.body l.written)) ≡ definitions_from l.table 0 (map body_of_written l.written)
