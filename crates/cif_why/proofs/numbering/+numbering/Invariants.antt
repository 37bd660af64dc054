use Rattle.std.proofs.Common.{◌≡◌, ◌+◌, ◌++◌, drop, map}
use Rattle.cif_net_expr.specs.View.{view_updates, view_update_branches}
use Rattle.cif_value.specs.Settings.{told}
use Rattle.cif_eval.specs.Updates.{AreSafeUpdates, AreSafeChoices, is_taken, most_in, most_pairs}
use Rattle.cif_why.specs.Numbering.{numbered_all, numbered_in, numbered_tree}
use Rattle.cif_why.proofs.numbering.+numbering.Given as goal

abbrev pub invariant-number_all-loop-update : goal.invariant-number_all-loop-update
invariant-number_all-loop-update l = record {
  found : map numbered_tree l.found ++ numbered_all (told l.state l.received) l.next (view_updates (drop l.update-index l.updates)) ≡ map numbered_tree l.initial.found ++ numbered_all (told l.state l.received) l.first (view_updates l.updates);
  safe : AreSafeUpdates (told l.state l.received) (view_updates (drop l.update-index l.updates));
  few : l.next + most_pairs (view_updates (drop l.update-index l.updates)) ≡ l.first + most_pairs (view_updates l.updates);
}

abbrev pub invariant-number_taken-loop-branch : goal.invariant-number_taken-loop-branch
invariant-number_taken-loop-branch l = record {
  taken : is_taken (told l.state l.received) (view_update_branches (drop l.branch-index l.branches)) ≡ is_taken (told l.state l.received) (view_update_branches l.branches);
  found : numbered_in (told l.state l.received) l.next (view_update_branches (drop l.branch-index l.branches)) ≡ numbered_in (told l.state l.received) l.first (view_update_branches l.branches);
  safe : AreSafeChoices (told l.state l.received) (view_update_branches (drop l.branch-index l.branches));
  few : l.next + most_in (view_update_branches (drop l.branch-index l.branches)) ≡ l.first + most_in (view_update_branches l.branches);
  same : l.found ≡ l.initial.found;
}
