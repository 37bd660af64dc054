use Rattle.std.proofs.Common.{◌≡◌, ℕ, ◌<◌, ◌≤◌, false}
use Rattle.cif_sim.specs.Marks.{is_on}
use Rattle.cif_sim.proofs.marks.is_group_off.Given as goal

abbrev pub invariant-loop-at : goal.invariant-loop-at
invariant-loop-at l = (k : ℕ) → l.at ≤ k → k < l.to → is_on l.marks k ≡ false
