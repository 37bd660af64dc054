use Rattle.cif_net_model.specs.Exprs.{edge_exprs}
use Rattle.cif_net.specs.View.{edge_tree}
use Rattle.cif_alg_measure.proofs.SizeLaws.{size-told, size-of_net, edge-measured}
use Rattle.cif_alg_measure.proofs.sizes.edge_size.Goals as goal

pub returns-clause-value : goal.returns-clause-value
returns-clause-value c =
    size-told c.args.algs.now (edge_exprs (edge_tree c.args.edge.now)) c.edge_measure.result
    (edge-measured c.args.algs.now (edge_tree c.args.edge.now) c.edge_measure.result c.none.result c.none.ensures c.edge_measure.ensures)

pub returns-clause-of_net : goal.returns-clause-of_net
returns-clause-of_net c =
    size-of_net c.args.algs.now (edge_exprs (edge_tree c.args.edge.now)) c.edge_measure.result
    (edge-measured c.args.algs.now (edge_tree c.args.edge.now) c.edge_measure.result c.none.result c.none.ensures c.edge_measure.ensures)
