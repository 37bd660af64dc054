use Rattle.std.proofs.Common.{ap, ◌∙◌}
use Rattle.cif_net_expr.specs.View.{view}
use Rattle.st_ast.specs.Tree.{assign}
use Rattle.st_ast.specs.View.{view_expr}
use Rattle.st_ast.specs.declared.tree.Stmt.TheVariants as statement
use Rattle.plc_model.specs.Names.{name_for}
use Rattle.plc_model.specs.declared.letter.Letter.TheVariants as letter
use Rattle.plc_expr.specs.Texts.{before, text}
use Rattle.plc_expr.specs.Written.{naming_of}
use Rattle.plc_gen.proofs.Shown.{one-shown}
use Rattle.plc_event.proofs.Updating.{view_assign}
use Rattle.plc_gen.proofs.showing.show.Goals as goal

pub returns-clause-before : goal.returns-clause-before
returns-clause-before c =
    let w = naming_of c.args.names.now in
    let e = view c.args.value.now in
    let k = c.args.draft.now.next in
    one-shown c.args.draft.now.statements c.written.new.draft.statements c.push.new.self (before w k e) (statement.Assign c.in_ok-target.target c.into_inner-value.result) (assign (name_for letter.R c.args.number c.args.path.now) (text w k e))
    c.in_ok-push.ensures.ok c.in_ok-text.ensures.before
    (view_assign c.in_ok-target.target c.into_inner-value.result ∙ ap (λ x. assign x (view_expr c.into_inner-value.result)) c.in_ok-target.ensures ∙ ap (assign (name_for letter.R c.args.number c.args.path.now)) (ap view_expr c.into_inner-value.ensures ∙ c.in_ok-text.ensures.text))
