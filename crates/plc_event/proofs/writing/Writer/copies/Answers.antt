use Rattle.std.proofs.Common.{sym, ap, ◌∙◌}
use Rattle.st_ast.specs.View.{view_stmt, view_stmts}
use Rattle.plc_expr.specs.Written.{naming_of}
use Rattle.plc_event_model.specs.Acts.{copy}
use Rattle.plc_event.specs.Writers.{new_names_of}
use Rattle.plc_event.proofs.Steps.{none-left, one-more}
use Rattle.plc_event.proofs.writing.Writer.copies.Goals as goal

pub loop-var-preserved : goal.loop-var-preserved
loop-var-preserved c =
    one-more (copy (naming_of c.args.self.now.names.now) (new_names_of c.args.self.now.new.now)) c.args.vars.now c.loop-var.var-index _ c.loop-var.all c.push.new.self c.into_inner.result c.loop-var-test.true
    (ap view_stmt c.into_inner.ensures ∙ c.in_ok-copy.ensures) c.in_ok-push.ensures.ok
    ∙ c.loop-var.invariant

pub returns : goal.returns
returns c =
    sym (none-left (copy (naming_of c.args.self.now.names.now) (new_names_of c.args.self.now.new.now)) c.args.vars.now c.loop-var.var-index (view_stmts c.loop-var.all) c.loop-var-test.false)
    ∙ c.loop-var.invariant
