use Rattle.std.proofs.Common.{◌≡◌, drop, map}
use Rattle.cif_net.specs.View.{move_tree}
use Rattle.cif_why.specs.Restoring.{movers, restored}
use Rattle.cif_why.proofs.storing.restore_places.Given as goal

abbrev pub invariant-loop-step : goal.invariant-loop-step
invariant-loop-step l = restored (movers (map move_tree (drop l.step-index l.moves))) l.from l.to ≡ restored (movers (map move_tree l.moves)) l.from l.initial.to
