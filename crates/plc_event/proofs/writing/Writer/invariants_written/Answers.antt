use Rattle.std.proofs.Common.{sym, ap, ◌∙◌, option_copied}
use Rattle.cif_net_expr.specs.View.{view}
use Rattle.cif_net.specs.View.{net_tree}
use Rattle.st_ast.specs.View.{view_expr, view_stmts}
use Rattle.plc_expr.specs.Written.{naming_of}
use Rattle.plc_event.proofs.Holding.{before-done, invariant-before, invariant-next, invariant-text, next-done, predicate-there, text-done}
use Rattle.plc_event.proofs.Marking.{same-item}
use Rattle.plc_event.proofs.writing.Writer.invariants_written.Goals as goal

pub loop-number-preserved : goal.loop-number-preserved
loop-number-preserved c =
    let n = net_tree c.args.self.now.net.now in
    let e = view c.in-Some.found.now.pred in
    let there = predicate-there c.args.self.now.net.now _ c.in-Some.found.now (sym (ap option_copied c.in-Some.is) ∙ c.get.ensures.value) in
    let item = same-item c.args.numbers.now c.loop-number.number-index 0 c.loop-number-test.true in
    record {
      text =
          invariant-text n c.args.numbers.now c.loop-number.number-index _ e c.loop-number-test.true item there (naming_of c.args.names.now) c.loop-number.draft.next c.written.new.draft.next c.loop-number.all c.push.new.self c.into_inner.result
          (ap view_expr c.into_inner.ensures ∙ c.in_ok-text.ensures.text) c.in_ok-text.ensures.next c.in_ok-push.ensures.ok
          ∙ c.loop-number.invariant.text;
      next = invariant-next n c.args.numbers.now c.loop-number.number-index _ e c.loop-number-test.true item there c.loop-number.draft.next c.written.new.draft.next c.in_ok-text.ensures.next ∙ c.loop-number.invariant.next;
      before =
          invariant-before n c.args.numbers.now c.loop-number.number-index _ e c.loop-number-test.true item there (naming_of c.args.names.now) c.loop-number.draft.next c.written.new.draft.next
          (view_stmts c.loop-number.draft.statements) (view_stmts c.written.new.draft.statements) c.in_ok-text.ensures.next c.in_ok-text.ensures.before
          ∙ c.loop-number.invariant.before;
    }

pub returns-clause-text : goal.returns-clause-text
returns-clause-text c =
    sym (text-done (net_tree c.args.self.now.net.now) c.args.numbers.now c.loop-number.number-index c.loop-number-test.false (naming_of c.args.names.now) c.loop-number.draft.next c.loop-number.all) ∙ c.loop-number.invariant.text

pub returns-clause-next : goal.returns-clause-next
returns-clause-next c =
    sym (next-done (net_tree c.args.self.now.net.now) c.args.numbers.now c.loop-number.number-index c.loop-number-test.false c.loop-number.draft.next) ∙ c.loop-number.invariant.next

pub returns-clause-before : goal.returns-clause-before
returns-clause-before c =
    sym (before-done (net_tree c.args.self.now.net.now) c.args.numbers.now c.loop-number.number-index c.loop-number-test.false (naming_of c.args.names.now) c.loop-number.draft.next (view_stmts c.loop-number.draft.statements))
    ∙ c.loop-number.invariant.before
