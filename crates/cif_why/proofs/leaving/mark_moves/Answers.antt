use Rattle.std.proofs.Common.{arith, map}
use Rattle.cif_net.specs.View.{auto_tree, move_tree, state_tree}
use Rattle.cif_why.specs.Leaving.{IsSafeMove}
use Rattle.cif_why.specs.Sent.{sends}
use Rattle.cif_why.proofs.ListLaws.{head-of}
use Rattle.cif_why.proofs.leaving.mark_moves.Goals as goal

pub mark_move-requires : goal.mark_move-requires
mark_move-requires c =
    head-of (IsSafeMove (map auto_tree c.args.net.now.autos) (state_tree c.args.state.now) (sends c.args.sending)) move_tree c.args.moves.now c.loop-step.step-index _ (omega arith) c.loop-step.invariant.safe
