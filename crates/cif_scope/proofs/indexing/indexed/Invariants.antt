use Rattle.std.proofs.Common.{take}
use Rattle.cif_scope.proofs.IndexLaws.{IsPartIndex}
use Rattle.cif_scope.proofs.indexing.indexed.Given as goal

abbrev pub invariant-loop-name : goal.invariant-loop-name
invariant-loop-name l = IsPartIndex (take l.name-index l.names) l.keys
