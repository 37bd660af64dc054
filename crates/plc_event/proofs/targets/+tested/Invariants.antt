use Rattle.std.proofs.Common.{◌≡◌, drop}
use Rattle.cif_net_expr.specs.View.{view_update_branches, view_updates}
use Rattle.cif_net.specs.View.{net_tree}
use Rattle.plc_event_model.specs.Writes as w
use Rattle.plc_event.proofs.targets.+tested.Given as goal

abbrev pub invariant-any_tested-loop-update : goal.invariant-any_tested-loop-update
invariant-any_tested-loop-update l = w.any_tested (net_tree l.net) (view_updates (drop l.update-index l.updates)) ≡ w.any_tested (net_tree l.net) (view_updates l.updates)

abbrev pub invariant-any_branch_tested-loop-branch : goal.invariant-any_branch_tested-loop-branch
invariant-any_branch_tested-loop-branch l =
    w.branches_tested (net_tree l.net) (view_update_branches (drop l.branch-index l.branches)) ≡ w.branches_tested (net_tree l.net) (view_update_branches l.branches)
