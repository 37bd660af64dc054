use Rattle.std.proofs.Common.{sym}
use Rattle.cif_net.specs.View.{edge_tree}
use Rattle.cif_why.proofs.breaking.add_of_edge.Goals as goal

pub add_updates-requires : goal.add_updates-requires
add_updates-requires c = c.requires (edge_tree c.in-Some.edge.now) (sym c.in-Some.ensures)
