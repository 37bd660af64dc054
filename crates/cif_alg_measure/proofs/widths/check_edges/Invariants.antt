use Rattle.std.proofs.Common.{◌≡◌, map, drop}
use Rattle.cif_net.specs.View.{edge_tree, event_tree}
use Rattle.cif_alg_measure.specs.Meanings.{ranges_of}
use Rattle.cif_alg_measure.specs.Widths.{checked_edges}
use Rattle.cif_alg_measure.proofs.widths.check_edges.Given as goal

abbrev pub invariant-loop-edge : goal.invariant-loop-edge
invariant-loop-edge l = checked_edges (ranges_of l.ranges) (map event_tree l.events) (map edge_tree (drop l.edge-index l.edges)) ≡ checked_edges (ranges_of l.ranges) (map event_tree l.events) (map edge_tree l.edges)
