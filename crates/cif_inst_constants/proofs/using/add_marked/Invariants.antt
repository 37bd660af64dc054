use Rattle.std.proofs.Common.{◌≡◌, ◌++◌, map, drop}
use Rattle.cif_scope.specs.Written.{body_of_written}
use Rattle.cif_inst_constants.specs.Used.{numbered_of, used_from}
use Rattle.cif_inst_constants.proofs.using.add_marked.Given as goal

abbrev pub invariant-loop-body : goal.invariant-loop-body
invariant-loop-body l = map numbered_of l.found.items ++ used_from l.used l.body (map body_of_written (drop l.body l.written)) ≡ map numbered_of l.fn.found.items ++ used_from l.used 0 (map body_of_written l.written)
