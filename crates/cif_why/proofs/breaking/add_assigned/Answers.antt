use Rattle.cif_net.specs.View.{state_tree}
use Rattle.cif_why.specs.Sent.{sends}
use Rattle.cif_why.proofs.MoveLaws.{safe-assigning}
use Rattle.cif_why.proofs.breaking.add_assigned.Goals as goal

pub add_of_edge-requires : goal.add_of_edge-requires
add_of_edge-requires c = λ y there. safe-assigning (state_tree c.args.state.now) (sends c.args.sending) y c.requires.fits (c.requires.safe c.in-Some.edge y c.in-Some.is there)
