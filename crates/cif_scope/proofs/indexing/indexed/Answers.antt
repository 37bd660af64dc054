use Rattle.std.proofs.Common.{sym, ◌∙◌}
use Rattle.cif_scope.proofs.IndexLaws.{index-more, index-twice, none-of}
use Rattle.cif_scope.proofs.indexing.indexed.Goals as goal

pub returns-in-Some-clause-twice : goal.returns-in-Some-clause-twice
returns-in-Some-clause-twice c =
    index-twice c.args.names.now c.loop-name.name-index c.in-Some.first c.name-item.result c.index-names-first.result c.loop-name.keys c.loop-name-test.true c.name-item.is c.loop-name.invariant
    (sym c.slot.ensures.slot ∙ c.in-Some.is) c.index-names-first.is

pub loop-name-preserved : goal.loop-name-preserved
loop-name-preserved c =
    index-more c.args.names.now c.loop-name.name-index c.name-item.result c.loop-name.keys _ c.loop-name-test.true c.name-item.is c.loop-name.invariant
    (sym c.slot.ensures.slot ∙ none-of c.slot.result c.in_default.not-Some) c.in_ok-add.ensures
