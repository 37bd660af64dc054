use Rattle.cif_order.proofs.OrderLaws.{order-acyclic}
use Rattle.cif_order.proofs.cycles.lowest.Goals as goal

pub returns-in-Ok : goal.returns-in-Ok
returns-in-Ok c = order-acyclic _ _ c.in-Ok.ensures.order
