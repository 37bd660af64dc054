use Rattle.std.proofs.Common.{◌≡◌, ◌++◌, drop}
use Rattle.std.specs.Prelude.{true}
use Rattle.cif_scope.specs.Looks.{steps, passed}
use Rattle.cif_scope.proofs.table.Table.follow.Given as goal

abbrev pub invariant-loop-part : goal.invariant-loop-part
invariant-loop-part l = record {
  at : steps l.self l.definitions true l.fn.from l.parts ≡ steps l.self l.definitions true l.at (drop l.part-index l.parts);
  through : passed l.self l.definitions l.fn.from l.parts ≡ l.through ++ passed l.self l.definitions l.at (drop l.part-index l.parts);
}
