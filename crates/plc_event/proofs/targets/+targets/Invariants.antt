use Rattle.std.proofs.Common.{◌≡◌, ◌++◌, drop}
use Rattle.cif_net_expr.specs.View.{view_update_branches, view_updates}
use Rattle.plc_event.specs.Assigned.{vars_in, vars_of_all}
use Rattle.plc_event.proofs.targets.+targets.Given as goal

abbrev pub invariant-add_targets-loop-update : goal.invariant-add_targets-loop-update
invariant-add_targets-loop-update l = l.found ++ vars_of_all (view_updates (drop l.update-index l.updates)) ≡ l.fn.found ++ vars_of_all (view_updates l.updates)

abbrev pub invariant-add_branch_targets-loop-branch : goal.invariant-add_branch_targets-loop-branch
invariant-add_branch_targets-loop-branch l = l.found ++ vars_in (view_update_branches (drop l.branch-index l.branches)) ≡ l.fn.found ++ vars_in (view_update_branches l.branches)
