use Rattle.std.proofs.Common.{sym, ap, ◌∙◌}
use Rattle.st_ast.specs.View.{view_expr, view_stmts}
use Rattle.plc_expr.specs.Written.{naming_of}
use Rattle.plc_event.proofs.Steps.{condition-before, condition-next, condition-text, conditions-end}
use Rattle.plc_event.proofs.writing.Writer.conditions.Goals as goal

pub loop-branch-preserved : goal.loop-branch-preserved
loop-branch-preserved c = record {
  text = condition-text (naming_of c.args.self.now.names.now) c.args.branches.now c.loop-branch.branch-index c.branch-item.result c.loop-branch-test.true c.branch-item.is c.loop-branch.draft.next c.written.new.draft.next
      c.loop-branch.all c.push.new.self c.into_inner.result (ap view_expr c.into_inner.ensures ∙ c.in_ok-cond.ensures.text) c.in_ok-cond.ensures.next c.in_ok-push.ensures.ok
      ∙ c.loop-branch.invariant.text;
  next = condition-next (naming_of c.args.self.now.names.now) c.args.branches.now c.loop-branch.branch-index c.branch-item.result c.loop-branch-test.true c.branch-item.is c.loop-branch.draft.next c.written.new.draft.next c.in_ok-cond.ensures.next
      ∙ c.loop-branch.invariant.next;
  before = condition-before (naming_of c.args.self.now.names.now) c.args.branches.now c.loop-branch.branch-index c.branch-item.result c.loop-branch-test.true c.branch-item.is c.loop-branch.draft.next c.written.new.draft.next
      (view_stmts c.loop-branch.draft.statements) (view_stmts c.written.new.draft.statements) c.in_ok-cond.ensures.next c.in_ok-cond.ensures.before
      ∙ c.loop-branch.invariant.before;
}

pub returns-clause-before : goal.returns-clause-before
returns-clause-before c =
    sym (conditions-end (naming_of c.args.self.now.names.now) c.args.branches.now c.loop-branch.branch-index c.loop-branch.draft.next (view_stmts c.loop-branch.draft.statements) c.loop-branch-test.false)
    ∙ c.loop-branch.invariant.before
