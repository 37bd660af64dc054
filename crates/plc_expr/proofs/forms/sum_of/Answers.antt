use Rattle.std.proofs.Common.{◌≡◌, IfOk, sym, subst}
use Rattle.st_ast.specs.View.{view_expr}
use Rattle.plc_expr.proofs.Shaping.{not-empty, sum_by}
use Rattle.plc_expr.proofs.forms.sum_of.Goals as goal

pub returns : goal.returns
returns c =
    subst (λ t. IfOk c.sum_with.result (λ e. view_expr e ≡ t))
    (sym (sum_by (view_expr c.args.first) c.args.rest (not-empty c.is_empty.ensures c.if-is_empty.false))) c.sum_with.ensures
