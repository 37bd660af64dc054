use Rattle.std.proofs.Common.{ap, map}
use Rattle.cif_net.specs.View.{net_tree, alg_tree}
use Rattle.cif_alg_order.proofs.CountLaws.{measures-told}
use Rattle.cif_alg_order.proofs.measuring.algebraic_measures.Goals as goal

pub returns : goal.returns
returns c = measures-told (net_tree c.args.net.now) c.args.order.now c.requires (map alg_tree c.as_slice.result.now) (ap (map alg_tree) c.as_slice.ensures) c.measures_along.result c.measures_along.ensures
