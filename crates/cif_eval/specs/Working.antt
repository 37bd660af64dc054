-- What the working memory of steps has room for.
use Rattle.std.specs.Prelude.{◌≡◌, ◌≤◌, ℕ, Some, slice_get}
use Rattle.cif_system.specs.System.{IsState}
use Rattle.cif_net_expr.specs.View.{view_updates}
use Rattle.cif_net.specs.View.{state_tree}
use Rattle.cif_net.specs.declared.guarded.Guarded.{Guarded}
use Rattle.cif_net.specs.declared.listing.Choice.{Choice}
use Rattle.cif_eval.specs.Choices.{system_of}
use Rattle.cif_eval.specs.Updates.{most_pairs}
use Rattle.cif_eval.specs.declared.scratch.Scratch.{Scratch}

-- there is a state of the net to work on, and room for the pairs of each choice
pub record IsScratchOf (g : Guarded) (x : Scratch) : Type 0 where
  pub next : IsState (system_of g) (state_tree x.next)
  pub room : (k : ℕ) (c : Choice) → slice_get g.choices k ≡ Some c → most_pairs (view_updates c.writes) ≤ x.pairs.room
