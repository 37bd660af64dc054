use Rattle.std.proofs.Common.{◌≡◌, ◌++◌, map, drop}
use Rattle.cif_scope.specs.Written.{body_of_written}
use Rattle.cif_resolve_cycles.specs.Names.{needs_from}
use Rattle.cif_resolve_cycles.proofs.needs.add_bodies.Given as goal

abbrev pub invariant-loop-body : goal.invariant-loop-body
invariant-loop-body l = l.all ++ needs_from l.scopes l.firsts l.body (map body_of_written (drop l.body l.written)) ≡ needs_from l.scopes l.firsts 0 (map body_of_written l.written)
