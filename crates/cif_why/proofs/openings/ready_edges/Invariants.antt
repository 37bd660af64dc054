use Rattle.std.proofs.Common.{◌≡◌, ◌++◌, pos, drop, map}
use Rattle.cif_net.specs.View.{edge_tree}
use Rattle.cif_value.specs.Settings.{told}
use Rattle.cif_why.specs.Openings.{is_ready}
use Rattle.cif_why.specs.Parties.{AreSafeGuards}
use Rattle.cif_why.proofs.openings.ready_edges.Given as goal

abbrev pub invariant-loop-edge : goal.invariant-loop-edge
invariant-loop-edge l = record {
  all : l.all ++ map (is_ready (told l.state (pos 0)) l.event l.place) (map edge_tree (drop l.edge-index l.edges)) ≡ map (is_ready (told l.state (pos 0)) l.event l.place) (map edge_tree l.edges);
  safe : AreSafeGuards (told l.state (pos 0)) (map edge_tree (drop l.edge-index l.edges));
}
