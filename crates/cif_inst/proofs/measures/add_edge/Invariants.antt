use Rattle.std.proofs.Common.{◌≡◌, ◌++◌, map, drop}
use Rattle.cif_source.specs.Source.{use_tree, edge_tree}
use Rattle.cif_inst_names.specs.Looking.{component_at}
use Rattle.cif_inst_sizes.specs.Weights.{alg_by, use_weight}
use Rattle.cif_inst.proofs.measures.add_edge.Given as goal

abbrev pub invariant-loop-event_use : goal.invariant-loop-event_use
invariant-loop-event_use l = l.all ++ map (use_weight (alg_by l.looking l.weights) (component_at l.looking l.component) (edge_tree l.edge)) (map use_tree (drop l.event_use-index l.uses)) ≡ l.fn.all ++ map (use_weight (alg_by l.looking l.weights) (component_at l.looking l.component) (edge_tree l.edge)) (map use_tree l.uses)
