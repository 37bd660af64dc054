use Rattle.std.proofs.Common.{◌≡◌, ◌++◌, drop, map}
use Rattle.cif_net.specs.View.{move_tree}
use Rattle.cif_sim.specs.Stays.{movers}
use Rattle.cif_sim_run.proofs.touches.add_movers.Given as goal

abbrev pub invariant-loop-step : goal.invariant-loop-step
invariant-loop-step l = l.autos ++ movers (map move_tree (drop l.step-index l.moves)) ≡ l.initial.autos ++ movers (map move_tree l.moves)
