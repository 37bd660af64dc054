use Rattle.std.proofs.Common.{◌≡◌, ◌+◌, ◌≤◌, map, drop}
use Rattle.cif_source.specs.Source.{edge_tree}
use Rattle.cif_inst_components.specs.Sizes.{stop, edges_size}
use Rattle.cif_inst_components.proofs.sizes.with_edges.Given as goal

abbrev pub invariant-loop-edge : goal.invariant-loop-edge
invariant-loop-edge l = (l.count ≤ 100001) × (stop (l.count + edges_size (map edge_tree (drop l.edge-index l.edges))) ≡ stop (l.fn.count + edges_size (map edge_tree l.edges)))
