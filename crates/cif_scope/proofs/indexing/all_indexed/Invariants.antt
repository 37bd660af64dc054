use Rattle.std.proofs.Common.{take}
use Rattle.cif_scope.specs.Indexes.{AreIndexed}
use Rattle.cif_scope.proofs.indexing.all_indexed.Given as goal

abbrev pub invariant-loop-scope : goal.invariant-loop-scope
invariant-loop-scope l = AreIndexed (take l.scope-index l.scopes) l.all
