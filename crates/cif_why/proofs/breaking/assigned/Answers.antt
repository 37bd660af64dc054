use Rattle.std.proofs.Common.{arith, map}
use Rattle.cif_net.specs.View.{auto_tree, move_tree, state_tree}
use Rattle.cif_why.specs.Leaving.{IsSafeMove}
use Rattle.cif_why.specs.Sent.{sends}
use Rattle.cif_why.proofs.ListLaws.{head-of}
use Rattle.cif_why.proofs.breaking.assigned.Goals as goal

pub add_assigned-requires-clause-safe : goal.add_assigned-requires-clause-safe
add_assigned-requires-clause-safe c =
    head-of (IsSafeMove (map auto_tree c.args.autos.now) (state_tree c.args.state.now) (sends c.args.sending)) move_tree c.args.moves.now c.loop-step.step-index _ (omega arith) c.loop-step.invariant.safe
