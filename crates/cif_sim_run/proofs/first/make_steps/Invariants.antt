-- What was written, and the steps that are left, make the whole run.
use Rattle.std.proofs.Common.{◌≡◌, ◌≤◌, ◌-◌}
use Rattle.cif_eval.specs.Choices.{system_of}
use Rattle.cif_net.specs.View.{state_tree}
use Rattle.cif_sim_run.specs.Left.{FirstRunning, names_in}
use Rattle.cif_sim_run.proofs.first.make_steps.Given as goal

abbrev pub invariant-loop-sim : goal.invariant-loop-sim
invariant-loop-sim g l =
    (l.sim.guarded ≡ l.fn.sim.guarded)
    × (l.lines.touches ≡ l.fn.sim.guarded)
    × FirstRunning (names_in l.fn.sim.guarded) (system_of l.fn.sim.guarded) l.fn.sim.state l.steps
    (g.O.Sink.written l.fn.out) (g.O.Sink.written l.out) l.sim.state l.lines.steps (state_tree l.lines.before)
    × (g.O.Sink.faults l.fn.out ≤ g.O.Sink.faults l.out)

abbrev pub decreases-loop-sim : goal.decreases-loop-sim
decreases-loop-sim g l = l.steps - l.lines.steps
