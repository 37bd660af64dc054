use Rattle.std.proofs.Common.{◌≡◌, IfOk, map, sym, ap, subst, ◌∙◌}
use Rattle.std.proofs.lemmas.Result.{IfOk-weaker}
use Rattle.cif_net.specs.View.{choice_tree, net_tree}
use Rattle.st_ast.specs.View.{view_stmt, view_stmts}
use Rattle.plc_expr.specs.Written.{naming_of}
use Rattle.plc_event_model.specs.Events.{all_written}
use Rattle.plc_event.specs.Writers.{new_names_of}
use Rattle.plc_event.proofs.Several.{event-chained, event-marked, only-chain}
use Rattle.plc_event.proofs.writing.Writer.several.Goals as goal

pub returns-then-marks-clause-statements : goal.returns-then-marks-clause-statements
returns-then-marks-clause-statements c =
    subst (λ ss. IfOk c.marked.result (λ all. view_stmts all ≡ ss))
    (sym (event-marked (net_tree c.args.self.now.net.now) (naming_of c.args.self.now.names.now) (new_names_of c.args.self.now.new.now) c.args.next c.args.marks.now.done c.args.choices.now c.requires.several (sym c.requires.is_used ∙ c.if-marks.true)))
    c.marked.ensures.statements

pub returns-clause-statements : goal.returns-clause-statements
returns-clause-statements c =
    IfOk-weaker c.only.result _ _
    (only-chain c.into_inner.result c.in_ok-branches.branches (all_written (net_tree c.args.self.now.net.now) (naming_of c.args.self.now.names.now) (new_names_of c.args.self.now.new.now) c.args.next (map choice_tree c.args.choices.now)) _
    (ap view_stmt c.into_inner.ensures ∙ c.in_ok-first_of.ensures) c.in_ok-branches.ensures.branches
    (event-chained (net_tree c.args.self.now.net.now) (naming_of c.args.self.now.names.now) (new_names_of c.args.self.now.new.now) c.args.next c.args.marks.now.done c.args.choices.now c.requires.several (sym c.requires.is_used ∙ c.if-marks.false)))
    c.only.ensures
