use Rattle.std.proofs.Common.{◌≡◌, ◌++◌, drop}
use Rattle.cif_net_expr.specs.View.{view_updates, view_update_branches}
use Rattle.cif_sim.specs.Stays.{targets_all, targets_in}
use Rattle.cif_sim_run.proofs.touches.+targets.Given as goal

abbrev pub invariant-add_targets-loop-update : goal.invariant-add_targets-loop-update
invariant-add_targets-loop-update l = l.vars ++ targets_all (view_updates (drop l.update-index l.updates)) ≡ l.initial.vars ++ targets_all (view_updates l.updates)

abbrev pub invariant-add_branch_targets-loop-branch : goal.invariant-add_branch_targets-loop-branch
invariant-add_branch_targets-loop-branch l = l.vars ++ targets_in (view_update_branches (drop l.branch-index l.branches)) ≡ l.initial.vars ++ targets_in (view_update_branches l.branches)
