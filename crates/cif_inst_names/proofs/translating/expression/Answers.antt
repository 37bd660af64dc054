use Rattle.std.proofs.Common.{◌≡◌, IfOk, subst, ap}
use Rattle.cif_ast.specs.View.{view}
use Rattle.cif_net_expr.specs.View as net
use Rattle.cif_inst_model.specs.Translation.{net_with}
use Rattle.cif_inst_names.proofs.NameLaws.{names-in}
use Rattle.cif_inst_names.proofs.translating.expression.Goals as goal

pub returns : goal.returns
returns c =
    subst (λ y. IfOk c.expr.result (λ x. net.view x ≡ y)) (ap (λ name. net_with name (view c.args.expr.now)) (names-in c.args.looking.now c.args.component)) c.expr.ensures
