use Rattle.cif_inst_sizes.specs.declared.measuring.Measurer.{Measurer}
use Rattle.cif_inst_sizes.proofs.WeightLaws.{knows, edge-told}
use Rattle.cif_inst_sizes.proofs.edges.edge_measure.Goals as goal

pub conditions-requires : goal.conditions-requires
conditions-requires c = knows _ (record { names = c.requires.names; weights = c.requires.weights })

pub updates-requires : goal.updates-requires
updates-requires c = knows _ (record { names = c.requires.names; weights = c.requires.weights })

pub returns : goal.returns
returns c =
    let m : Measurer = record { looking = c.args.looking; weights = c.args.weights; component = c.args.component } in
    edge-told m c.args.edge.now c.as_slice.result.now c.as_slice-2.result.now c.in_ok-guard.guard c.updates.result c.as_slice.ensures c.as_slice-2.ensures c.in_ok-guard.ensures c.updates.ensures
