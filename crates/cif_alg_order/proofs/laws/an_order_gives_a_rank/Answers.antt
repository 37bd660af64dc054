use Rattle.cif_alg_order.proofs.GraphLaws.{order-gives}
use Rattle.cif_alg_order.proofs.laws.an_order_gives_a_rank.Goals as goal

pub returns : goal.returns
returns c n order ordered = order-gives n order ordered
