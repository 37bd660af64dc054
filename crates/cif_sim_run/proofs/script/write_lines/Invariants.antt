-- What was written, and the lines that are left, make the whole run.
use Rattle.std.proofs.Common.{◌≡◌, ◌≤◌}
use Rattle.cif_eval.specs.Choices.{system_of}
use Rattle.cif_net.specs.View.{state_tree}
use Rattle.cif_sim_model.specs.Script.{script_lines}
use Rattle.cif_sim_run.specs.Left.{Running}
use Rattle.cif_sim_run.proofs.script.write_lines.Given as goal

abbrev pub invariant-loop-line : goal.invariant-loop-line
invariant-loop-line g l =
    (goal.iterator-loop-line g).can_next l.line-iterator
    × (goal.iterator-loop-line g).is_finite l.line-iterator
    × (l.sim.guarded ≡ l.fn.sim.guarded)
    × (l.lines.touches ≡ l.fn.sim.guarded)
    × Running l.paths (system_of l.fn.sim.guarded) l.fn.sim.state (script_lines l.script) l.number
    (g.O.Sink.written l.fn.out) (g.O.Sink.written l.out) l.sim.state l.lines.steps (state_tree l.lines.before) l.line-iterator
    × (g.O.Sink.faults l.fn.out ≤ g.O.Sink.faults l.out)
