use Rattle.std.proofs.Common.{sym, ap, ◌∙◌}
use Rattle.st_ast.specs.Tree.{assign, no_stms}
use Rattle.st_ast.specs.View.{view_expr, view_stmts}
use Rattle.plc_expr.specs.Written.{naming_of}
use Rattle.plc_event_model.specs.Sends.{where_fits}
use Rattle.plc_expr_walk.proofs.Joining.{append-none}
use Rattle.plc_event.proofs.Updating.{set-added, view_assign}
use Rattle.plc_event.proofs.writing.Writer.sending.Goals as goal

pub returns : goal.returns
returns c =
    let name = (naming_of c.args.self.now.names.now).received in
    set-added c.args.before c.args.before c.push.new.self c.in_ok-where_fits.field-0 c.append.new.self
    no_stms (where_fits name c.args.ty (view_stmts c.args.body))
    _ c.in_ok-push.ensures.ok (assign name (view_expr c.args.value))
    (sym (append-none (view_stmts c.args.before)))
    (view_assign c.in_ok-target.target c.args.value ∙ ap (λ x. assign x (view_expr c.args.value)) c.in_ok-target.ensures)
    c.in_ok-where_fits.ensures c.in_ok-append.ensures
