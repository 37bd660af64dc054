use Rattle.std.proofs.Common.{◌≡◌, ℕ, ◌+◌, ◌-◌, length}
use Rattle.cif_sim.specs.Readers.{list_at}
use Rattle.cif_sim.proofs.readers.reach.Given as goal

abbrev pub invariant-reach : goal.invariant-reach
invariant-reach l = (k : ℕ) → list_at l.lists k ≡ list_at l.initial.lists k

abbrev pub decreases-reach : goal.decreases-reach
decreases-reach l = l.at + 1 - length l.lists
