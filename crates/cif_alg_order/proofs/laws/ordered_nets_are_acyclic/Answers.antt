use Rattle.cif_alg_order.proofs.GraphLaws.{order-acyclic}
use Rattle.cif_alg_order.proofs.laws.ordered_nets_are_acyclic.Goals as goal

pub returns : goal.returns
returns c n order ordered = order-acyclic n order ordered
