use Rattle.cif_net.specs.View.{net_tree}
use Rattle.cif_alg_order.proofs.GraphLaws.{order-acyclic}
use Rattle.cif_alg.proofs.KeepLaws.{keeps}
use Rattle.cif_alg.proofs.LimitLaws.{order-told, refusal-told}
use Rattle.cif_alg.proofs.checking.check_net.Goals as goal

pub returns-in_err-order-clause-refused : goal.returns-in_err-order-clause-refused
returns-in_err-order-clause-refused c = order-told (net_tree c.args.net.now) c.from_residual.result c.in_err-order.field-0.0 c.from_residual.ensures.1 c.in_err-order.ensures.refused

pub returns-in_err-check_algebraic_intervals-clause-refused : goal.returns-in_err-check_algebraic_intervals-clause-refused
returns-in_err-check_algebraic_intervals-clause-refused c =
    refusal-told (net_tree c.args.net.now) c.from_residual-in_err-check_algebraic_intervals.result c.in_err-check_algebraic_intervals.field-0.0 c.from_residual-in_err-check_algebraic_intervals.ensures.1 c.in_err-check_algebraic_intervals.ensures.refused

pub returns-clause-keeps : goal.returns-clause-keeps
returns-clause-keeps c =
    keeps (net_tree c.args.net.now) (order-acyclic (net_tree c.args.net.now) c.in_ok-order.order c.in_ok-order.ensures.order) c.in_ok-check_algebraic_intervals.ensures.divides c.in_ok-check_algebraic_intervals.ensures.narrow
    c.in_ok-check_counts.ensures.small
