use Rattle.std.proofs.Common.{◌≡◌, ◌+◌, ◌≤◌, ◌++◌, drop, length}
use Rattle.cif_net_expr.specs.View.{view_updates, view_update_branches}
use Rattle.cif_net.specs.View.{state_tree}
use Rattle.cif_value.specs.Settings.{told}
use Rattle.cif_eval.specs.Updates.{AreSafeUpdates, AreSafeChoices, is_taken, most_in, most_pairs}
use Rattle.cif_eval.specs.Writes.{assigned_all, assigned_in}
use Rattle.cif_eval.proofs.assigning.+assigning.Given as goal

abbrev pub invariant-assign_all-loop-update : goal.invariant-assign_all-loop-update
invariant-assign_all-loop-update l = record {
  pairs : l.pairs.pairs ++ assigned_all (state_tree l.state) l.received (view_updates (drop l.update-index l.updates)) ≡ l.initial.pairs.pairs ++ assigned_all (state_tree l.state) l.received (view_updates l.updates);
  safe : AreSafeUpdates (told l.state l.received) (view_updates (drop l.update-index l.updates));
  few : length l.pairs.pairs + most_pairs (view_updates (drop l.update-index l.updates)) ≤ length l.initial.pairs.pairs + most_pairs (view_updates l.updates);
  room : l.pairs.room ≡ l.initial.pairs.room;
}

abbrev pub invariant-assign_taken-loop-branch : goal.invariant-assign_taken-loop-branch
invariant-assign_taken-loop-branch l = record {
  taken : is_taken (told l.state l.received) (view_update_branches (drop l.branch-index l.branches)) ≡ is_taken (told l.state l.received) (view_update_branches l.branches);
  pairs : assigned_in (state_tree l.state) l.received (view_update_branches (drop l.branch-index l.branches)) ≡ assigned_in (state_tree l.state) l.received (view_update_branches l.branches);
  safe : AreSafeChoices (told l.state l.received) (view_update_branches (drop l.branch-index l.branches));
  few : most_in (view_update_branches (drop l.branch-index l.branches)) ≤ most_in (view_update_branches l.branches);
  same : l.pairs ≡ l.initial.pairs;
}
