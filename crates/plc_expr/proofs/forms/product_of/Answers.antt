use Rattle.std.proofs.Common.{◌≡◌, IfOk, sym, subst}
use Rattle.st_ast.specs.View.{view_expr}
use Rattle.plc_expr.proofs.Shaping.{not-empty, product_by}
use Rattle.plc_expr.proofs.forms.product_of.Goals as goal

pub returns : goal.returns
returns c =
    subst (λ t. IfOk c.product_with.result (λ e. view_expr e ≡ t))
    (sym (product_by (view_expr c.args.first) c.args.rest (not-empty c.is_empty.ensures c.if-is_empty.false))) c.product_with.ensures
