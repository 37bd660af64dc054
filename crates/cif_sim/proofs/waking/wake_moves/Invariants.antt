use Rattle.std.proofs.Common.{◌≡◌, drop, map}
use Rattle.cif_net.specs.View.{move_tree}
use Rattle.cif_sim.specs.Waking.{woken_moves}
use Rattle.cif_sim.proofs.waking.wake_moves.Given as goal

abbrev pub invariant-loop-step : goal.invariant-loop-step
invariant-loop-step l = woken_moves l.places (map move_tree (drop l.step-index l.moves)) l.marks ≡ woken_moves l.places (map move_tree l.moves) l.initial.marks
