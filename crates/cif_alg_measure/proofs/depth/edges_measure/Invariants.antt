use Rattle.std.proofs.Common.{◌≡◌, map, drop}
use Rattle.cif_net.specs.View.{edge_tree}
use Rattle.cif_alg_measure.specs.Meanings.{stopped_table}
use Rattle.cif_alg_measure.specs.Sizes.{edges_counted}
use Rattle.cif_alg_measure.proofs.depth.edges_measure.Given as goal

abbrev pub invariant-loop-edge : goal.invariant-loop-edge
invariant-loop-edge l = edges_counted (stopped_table l.algs) l.found (map edge_tree (drop l.edge-index l.all)) ≡ edges_counted (stopped_table l.algs) l.fn.before (map edge_tree l.all)
