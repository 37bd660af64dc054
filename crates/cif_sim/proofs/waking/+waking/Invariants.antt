use Rattle.std.proofs.Common.{◌≡◌, drop}
use Rattle.cif_net_expr.specs.View.{view_updates, view_update_branches}
use Rattle.cif_sim.specs.Waking.{woken_branches, woken_updates}
use Rattle.cif_sim.proofs.waking.+waking.Given as goal

abbrev pub invariant-wake_updates-loop-update : goal.invariant-wake_updates-loop-update
invariant-wake_updates-loop-update l = woken_updates l.vars (view_updates (drop l.update-index l.updates)) l.marks ≡ woken_updates l.vars (view_updates l.updates) l.initial.marks

abbrev pub invariant-wake_branches-loop-branch : goal.invariant-wake_branches-loop-branch
invariant-wake_branches-loop-branch l = woken_branches l.vars (view_update_branches (drop l.branch-index l.branches)) l.marks ≡ woken_branches l.vars (view_update_branches l.branches) l.initial.marks
