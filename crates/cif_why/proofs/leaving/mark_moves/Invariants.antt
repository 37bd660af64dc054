use Rattle.std.proofs.Common.{◌≡◌, drop, map}
use Rattle.std.specs.List.{AllByRecursion}
use Rattle.cif_net.specs.View.{auto_tree, move_tree, net_tree, state_tree}
use Rattle.cif_why.specs.Leaving.{IsSafeMove, moves_marked}
use Rattle.cif_why.specs.Sent.{sends}
use Rattle.cif_why.proofs.leaving.mark_moves.Given as goal

abbrev pub invariant-loop-step : goal.invariant-loop-step
invariant-loop-step l = record {
  marked : moves_marked (net_tree l.net) (state_tree l.state) l.event (sends l.sending) (map move_tree (drop l.step-index l.moves)) l.marks ≡ moves_marked (net_tree l.net) (state_tree l.state) l.event (sends l.sending) (map move_tree l.moves) l.initial.marks;
  safe : AllByRecursion (IsSafeMove (map auto_tree l.net.autos) (state_tree l.state) (sends l.sending)) (map move_tree (drop l.step-index l.moves));
}
