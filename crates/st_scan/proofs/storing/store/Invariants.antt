use Rattle.std.proofs.Common.{◌≡◌, drop}
use Rattle.st_scan.specs.Stored.{stored}
use Rattle.st_scan.proofs.storing.store.Given as goal

abbrev pub invariant-loop-k : goal.invariant-loop-k
invariant-loop-k l = stored (drop l.k l.row) (drop l.k l.inputs) l.work ≡ stored l.row l.inputs l.memory
