use Rattle.cif_order.proofs.OrderLaws.{order-acyclic}
use Rattle.cif_order.proofs.laws.ordered_needs_are_acyclic.Goals as goal

pub returns : goal.returns
returns c = order-acyclic
