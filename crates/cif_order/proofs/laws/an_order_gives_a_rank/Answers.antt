use Rattle.cif_order.proofs.OrderLaws.{order-rank}
use Rattle.cif_order.proofs.laws.an_order_gives_a_rank.Goals as goal

pub returns : goal.returns
returns c = order-rank
