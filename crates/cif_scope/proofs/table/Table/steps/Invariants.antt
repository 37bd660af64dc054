use Rattle.std.proofs.Common.{◌≡◌, drop}
use Rattle.cif_scope.specs.Looks.{steps}
use Rattle.cif_scope.proofs.table.Table.steps.Given as goal

abbrev pub invariant-loop-part : goal.invariant-loop-part
invariant-loop-part l = steps l.self l.definitions l.passes l.fn.from l.parts ≡ steps l.self l.definitions l.passes l.at (drop l.part-index l.parts)
