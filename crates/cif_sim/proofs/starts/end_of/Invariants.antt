use Rattle.std.proofs.Common.{◌≡◌, ℕ, ◌<◌, ◌≤◌, Some}
use Rattle.std.specs.Prelude.{slice_get}
use Rattle.cif_net.specs.declared.listing.Choice.{Choice}
use Rattle.cif_sim.proofs.starts.end_of.Given as goal

abbrev pub invariant-loop-k : goal.invariant-loop-k
invariant-loop-k l = (k : ℕ) (c : Choice) → l.from ≤ k → k < l.k → slice_get l.choices k ≡ Some c → c.event ≡ l.event
