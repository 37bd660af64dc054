use Rattle.std.proofs.Common.{◌≡◌, map, drop}
use Rattle.cif_scope.specs.Written.{body_of_written}
use Rattle.cif_types_constancy.specs.Constancy.{unfit_from}
use Rattle.cif_types_constancy.proofs.checking.first_unfit.Given as goal

abbrev pub invariant-loop-body : goal.invariant-loop-body
invariant-loop-body l = unfit_from l.scopes 0 (map body_of_written l.written) ≡ unfit_from l.scopes l.body (map body_of_written (drop l.body l.written))
