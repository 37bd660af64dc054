use Rattle.cif_source.specs.Source.{edge_tree}
use Rattle.cif_inst_names.specs.Looking.{component_at}
use Rattle.cif_inst_sizes.specs.Weights.{alg_by}
use Rattle.cif_inst.proofs.MeasureLaws.{weight_added}
use Rattle.cif_inst.proofs.measures.add_edge.Goals as goal

pub loop-event_use-preserved : goal.loop-event_use-preserved
loop-event_use-preserved c =
    weight_added (alg_by c.args.looking.now c.args.weights.now) (component_at c.args.looking.now c.args.component) (edge_tree c.args.edge.now) c.as_slice-uses.result.now c.loop-event_use.event_use-index c.event_use-item.result c.loop-event_use.all c.push.new.self _
    c.in_ok-measure.measure c.loop-event_use-test.true c.event_use-item.is c.in_ok-push.ensures.ok
    (c.in_ok-measure.ensures (edge_tree c.args.edge.now) c.in_ok-shared.ensures)
    c.loop-event_use.invariant
