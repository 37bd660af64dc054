use Rattle.std.proofs.Common.{◌≡◌, map, drop}
use Rattle.cif_net.specs.View.{edge_tree}
use Rattle.cif_alg_measure.specs.Meanings.{table_measure}
use Rattle.cif_alg.specs.Tallies.{edges_noted}
use Rattle.cif_alg.proofs.counting.note_edges.Given as goal

abbrev pub invariant-loop-edge : goal.invariant-loop-edge
invariant-loop-edge l = edges_noted (table_measure l.algs) (map edge_tree (drop l.edge-index l.edges)) l.tallies ≡ edges_noted (table_measure l.algs) (map edge_tree l.edges) l.initial.tallies
