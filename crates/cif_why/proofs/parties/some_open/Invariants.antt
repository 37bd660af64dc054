use Rattle.std.proofs.Common.{◌≡◌, pos, drop, map}
use Rattle.cif_net.specs.View.{edge_tree, role_of}
use Rattle.cif_value.specs.Settings.{told}
use Rattle.cif_why.specs.Parties.{AreSafeGuards, some_open}
use Rattle.cif_why.proofs.parties.some_open.Given as goal

abbrev pub invariant-loop-edge : goal.invariant-loop-edge
invariant-loop-edge l = record {
  some : some_open (told l.state (pos 0)) (role_of l.role) l.event l.place (map edge_tree (drop l.edge-index l.edges)) ≡ some_open (told l.state (pos 0)) (role_of l.role) l.event l.place (map edge_tree l.edges);
  safe : AreSafeGuards (told l.state (pos 0)) (map edge_tree (drop l.edge-index l.edges));
}
