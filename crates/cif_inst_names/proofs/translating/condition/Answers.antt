use Rattle.std.proofs.Common.{◌≡◌, IfOk, subst, ap, ◌∙◌}
use Rattle.cif_ast.specs.View.{view_exprs}
use Rattle.cif_net_expr.specs.View as net
use Rattle.cif_inst_model.specs.Translation.{net_exprs_of, conjunction}
use Rattle.cif_inst_names.specs.Looking.{component_at}
use Rattle.cif_inst_names.proofs.NameLaws.{names-in}
use Rattle.cif_inst_names.proofs.UpdateLaws.{exprs_listed}
use Rattle.cif_inst_names.proofs.translating.condition.Goals as goal

pub returns : goal.returns
returns c =
    let es = view_exprs c.args.conds.now in
    subst (λ y. IfOk c.condition.result (λ x. net.view x ≡ y))
    (ap conjunction (ap (λ name. net_exprs_of name es) (names-in c.args.looking.now c.args.component) ∙ exprs_listed (component_at c.args.looking.now c.args.component) es)) c.condition.ensures
