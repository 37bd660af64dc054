use Rattle.std.proofs.Common.{◌≡◌, ◌≤◌, length}
use Rattle.cif_sim_run.proofs.Tables.{Each}
use Rattle.cif_sim_run.proofs.touches.all_touched.Given as goal

abbrev pub invariant-loop-choice : goal.invariant-loop-choice
invariant-loop-choice l = (length l.all ≡ l.choice-index) × (l.choice-index ≤ length l.choices) × Each l.choices l.all
