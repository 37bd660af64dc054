use Rattle.std.proofs.Common.{subst, List}
use Rattle.cif_scope.specs.declared.scope.ScopeName.{ScopeName}
use Rattle.cif_scope.specs.Indexes.{IsIndexOf}
use Rattle.cif_scope.proofs.IndexLaws.{all-more}
use Rattle.cif_scope.proofs.indexing.all_indexed.Goals as goal

pub loop-scope-preserved : goal.loop-scope-preserved
loop-scope-preserved c =
    all-more c.args.scopes.now c.loop-scope.scope-index c.scope-item.result c.loop-scope.all c.push.new.self c.in_ok-indexed.field-0 c.loop-scope-test.true c.scope-item.is c.loop-scope.invariant
    (subst (λ (ns : List ScopeName). IsIndexOf ns c.in_ok-indexed.field-0) c.as_slice.ensures c.in_ok-indexed.ensures.index) c.in_ok-push.ensures.ok
