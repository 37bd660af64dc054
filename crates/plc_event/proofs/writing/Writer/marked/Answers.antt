use Rattle.std.proofs.Common.{List, sym, ap, ◌∙◌}
use Rattle.grammar.specs.Pieces.{Text}
use Rattle.cif_net.specs.View.{net_tree}
use Rattle.st_ast.specs.View.{view_stmt, view_stmts}
use Rattle.plc_expr.specs.Written.{naming_of}
use Rattle.plc_event.specs.Making.{all_set}
use Rattle.plc_event.specs.Writers.{new_names_of}
use Rattle.plc_event.proofs.Several.{begun, parts-end, parts-more}
use Rattle.plc_event.proofs.writing.Writer.marked.Goals as goal

pub loop-choice-preserved : goal.loop-choice-preserved
loop-choice-preserved c = record {
  same = c.in_ok-statements.ensures.still_same;
  statements =
      parts-more (net_tree c.args.self.now.net.now) (naming_of c.args.self.now.names.now) (new_names_of c.args.self.now.new.now) c.args.choices.now c.loop-choice.choice-index c.choice-item.result c.loop-choice-test.true c.choice-item.is
      c.args.marks.now.done c.loop-choice.next c.in_ok-statements.field-0.next c.loop-choice.all c.push.new.self c.into_inner.result (all_set c.as_slice.result.now) (view_stmts c.in_ok-statements.field-0.statements)
      (ap view_stmt c.into_inner.ensures ∙ c.in_ok-unless_done.ensures) c.in_ok-statements.ensures.statements (ap (λ (xs : List Text). all_set xs) c.as_slice.ensures ∙ c.requires.with_done) c.in_ok-statements.ensures.next c.in_ok-push.ensures.ok
      ∙ c.loop-choice.invariant.statements;
}

pub returns-clause-statements : goal.returns-clause-statements
returns-clause-statements c =
    sym (parts-end (net_tree c.args.self.now.net.now) (naming_of c.args.self.now.names.now) (new_names_of c.args.self.now.new.now) c.args.choices.now c.loop-choice.choice-index c.loop-choice.next c.loop-choice-test.false c.args.marks.now.done (view_stmts c.loop-choice.all))
    ∙ c.loop-choice.invariant.statements
    ∙ begun c.into_inner-start.result c.in_ok-all.all _ _ c.in_ok-all.ensures (ap view_stmt c.into_inner-start.ensures ∙ c.in_ok-marking.ensures)
