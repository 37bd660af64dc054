use Rattle.std.proofs.Common.{◌≡◌, ◌++◌, map, flat_map, drop}
use Rattle.cif_source.specs.Source.{edge_tree}
use Rattle.cif_inst_sizes.specs.Weights.{alg_by}
use Rattle.cif_inst.specs.Measures.{edge_weights}
use Rattle.cif_inst.proofs.measures.add_edges.Given as goal

abbrev pub invariant-loop-edge : goal.invariant-loop-edge
invariant-loop-edge l = l.all ++ flat_map (edge_weights (alg_by l.looking l.weights) l.looking l.component) (map edge_tree (drop l.edge-index l.edges)) ≡ l.fn.all ++ flat_map (edge_weights (alg_by l.looking l.weights) l.looking l.component) (map edge_tree l.edges)
