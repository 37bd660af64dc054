use Rattle.std.proofs.Common.{◌≡◌, IfOk, subst}
use Rattle.cif_net_expr.specs.View as net
use Rattle.cif_inst_names.specs.Looking.{component_at}
use Rattle.cif_inst_names.proofs.UpdateLaws.{guard_listed}
use Rattle.cif_inst_names.proofs.translating.guard.Goals as goal

pub returns-in-len1-up : goal.returns-in-len1-up
returns-in-len1-up c =
    subst (λ y. IfOk c.condition.result (λ x. net.view x ≡ y))
    (guard_listed (component_at c.args.looking.now c.args.component) c.args.at c.args.guards.now c.in-len1-up.len_at_least) c.condition.ensures
