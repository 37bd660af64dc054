use Rattle.std.proofs.Common.{◌≡◌, drop, map}
use Rattle.cif_why.specs.Restoring.{restored, variable_in}
use Rattle.cif_why.proofs.storing.restore_values.Given as goal

abbrev pub invariant-loop-one : goal.invariant-loop-one
invariant-loop-one l = restored (map variable_in (drop l.one-index l.assigned)) l.from l.to ≡ restored (map variable_in l.assigned) l.from l.initial.to
