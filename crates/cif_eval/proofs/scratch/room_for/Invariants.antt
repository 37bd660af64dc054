use Rattle.std.proofs.Common.{◌≡◌, ℕ, ◌≤◌, ◌<◌, Some}
use Rattle.std.specs.Prelude.{slice_get}
use Rattle.cif_net_expr.specs.View.{view_updates}
use Rattle.cif_net.specs.declared.listing.Choice.{Choice}
use Rattle.cif_eval.specs.Updates.{most_pairs}
use Rattle.cif_eval.proofs.scratch.room_for.Given as goal

abbrev pub invariant-loop-choice : goal.invariant-loop-choice
invariant-loop-choice l = (k : ℕ) (c : Choice) → k < l.choice-index → slice_get l.choices k ≡ Some c → most_pairs (view_updates c.writes) ≤ l.pairs.room
