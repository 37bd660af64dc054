use Rattle.cif_net.specs.View.{net_tree}
use Rattle.cif_alg_measure.proofs.SizeLaws.{none-measured}
use Rattle.cif_alg_measure.proofs.depth.depth_of.Goals as goal

pub returns : goal.returns
returns c = c.net_depth.ensures.of_net (none-measured (net_tree c.args.net.now) c.requires)
