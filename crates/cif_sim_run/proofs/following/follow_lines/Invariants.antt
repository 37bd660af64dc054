-- The lines that are left stop where all of them stop.
use Rattle.std.proofs.Common.{◌≡◌, ℕ}
use Rattle.grammar.specs.Pieces.{Text}
use Rattle.cif_eval.specs.Choices.{system_of}
use Rattle.cif_sim_model.specs.Script.{script_lines}
use Rattle.cif_sim_run.specs.Left.{Followed}
use Rattle.cif_sim_run.proofs.following.follow_lines.Given as goal

abbrev pub invariant-loop-line : goal.invariant-loop-line
invariant-loop-line l =
    goal.iterator-loop-line.can_next l.line-iterator
    × goal.iterator-loop-line.is_finite l.line-iterator
    × (l.sim.guarded ≡ l.fn.sim.guarded)
    × ((done : Text) × (k : ℕ) × Followed l.paths (system_of l.fn.sim.guarded) l.fn.sim.state 0 (script_lines l.script) l.number done l.sim.state k l.line-iterator)
