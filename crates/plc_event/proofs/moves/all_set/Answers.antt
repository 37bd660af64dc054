use Rattle.std.proofs.Common.{sym, ap, ◌∙◌}
use Rattle.st_ast.specs.View.{view_stmt, view_stmts}
use Rattle.plc_event.proofs.Steps.{set-end, set-more}
use Rattle.plc_event.proofs.moves.all_set.Goals as goal

pub loop-name-preserved : goal.loop-name-preserved
loop-name-preserved c =
    set-more c.args.names.now c.loop-name.name-index c.name-item.result c.loop-name.all c.push.new.self c.into_inner.result c.loop-name-test.true c.name-item.is
    (ap view_stmt c.into_inner.ensures ∙ c.in_ok-marking.ensures) c.in_ok-push.ensures.ok
    ∙ c.loop-name.invariant

pub returns : goal.returns
returns c = sym (set-end c.args.names.now c.loop-name.name-index (view_stmts c.loop-name.all) c.loop-name-test.false) ∙ c.loop-name.invariant
