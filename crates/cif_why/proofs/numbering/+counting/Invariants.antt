use Rattle.std.proofs.Common.{◌≡◌, ◌+◌, drop}
use Rattle.cif_net_expr.specs.View.{view_updates, view_update_branches}
use Rattle.cif_eval.specs.Updates.{most_in, most_pairs}
use Rattle.cif_why.proofs.numbering.+counting.Given as goal

abbrev pub invariant-behind_updates-loop-update : goal.invariant-behind_updates-loop-update
invariant-behind_updates-loop-update l = l.next + most_pairs (view_updates (drop l.update-index l.updates)) ≡ l.first + most_pairs (view_updates l.updates)

abbrev pub invariant-behind_branches-loop-branch : goal.invariant-behind_branches-loop-branch
invariant-behind_branches-loop-branch l = l.next + most_in (view_update_branches (drop l.branch-index l.branches)) ≡ l.first + most_in (view_update_branches l.branches)
