use Rattle.std.proofs.Common.{◌≡◌, drop, map}
use Rattle.std.specs.List.{list_any}
use Rattle.cif_net_model.specs.Listing.{is_edge_for}
use Rattle.cif_net.specs.View.{edge_tree, role_of}
use Rattle.cif_why.proofs.parties.has_edge.Given as goal

abbrev pub invariant-loop-edge : goal.invariant-loop-edge
invariant-loop-edge l = list_any (is_edge_for (role_of l.role) l.event) (map edge_tree (drop l.edge-index l.edges)) ≡ list_any (is_edge_for (role_of l.role) l.event) (map edge_tree l.edges)
