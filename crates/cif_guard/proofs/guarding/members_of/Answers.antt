use Rattle.std.proofs.Common.{sym, ◌∙◌, ap}
use Rattle.cif_net_expr.specs.View.{view}
use Rattle.cif_net_expr.specs.declared.expressions.NetExpr.{roll-NetExpr}
use Rattle.cif_guard.specs.Tests.{members}
use Rattle.cif_guard.proofs.GuardLaws.{parted}
use Rattle.cif_guard.proofs.guarding.members_of.Goals as goal

pub returns-in-And : goal.returns-in-And
returns-in-And c =
    parted c.in-And.parts c.args.test.at ∙ ap (λ f. members (view (roll-NetExpr (record { form = f; at = c.args.test.at })))) (sym c.in-And.is)
