use Rattle.std.proofs.Common.{◌≡◌, map, take}
use Rattle.cif_net.specs.View.{edge_tree}
use Rattle.cif_net_model.specs.Inline.{edge_replaced}
use Rattle.cif_alg_unfold.specs.Tables.{by_table}
use Rattle.cif_alg_unfold.proofs.replacing.Replacing.edges.Given as goal

abbrev pub invariant-loop-edge : goal.invariant-loop-edge
invariant-loop-edge l = map edge_tree l.all ≡ map (edge_replaced (by_table l.self.by.now)) (map edge_tree (take l.edge-index l.edges))
