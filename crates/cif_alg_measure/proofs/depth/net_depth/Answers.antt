use Rattle.cif_net.specs.View.{net_tree}
use Rattle.cif_alg_measure.proofs.SizeLaws.{depth-told, depth-of_net}
use Rattle.cif_alg_measure.proofs.depth.net_depth.Goals as goal

pub returns-clause-value : goal.returns-clause-value
returns-clause-value c =
    depth-told c.args.algs.now (net_tree c.args.net.now) c.table_measured.result c.net_measure.result c.none.result c.none.ensures c.net_measure.ensures c.table_measured.ensures

pub returns-clause-of_net : goal.returns-clause-of_net
returns-clause-of_net c =
    depth-of_net c.args.algs.now (net_tree c.args.net.now) c.table_measured.result c.net_measure.result c.none.result c.none.ensures c.net_measure.ensures c.table_measured.ensures
