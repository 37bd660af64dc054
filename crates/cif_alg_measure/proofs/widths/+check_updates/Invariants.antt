use Rattle.std.proofs.Common.{◌≡◌, drop}
use Rattle.cif_net_expr.specs.View.{view_updates, view_update_branches}
use Rattle.cif_alg_measure.specs.Meanings.{ranges_of}
use Rattle.cif_alg_measure.specs.Widths.{checked_updates, checked_branches}
use Rattle.cif_alg_measure.proofs.widths.+check_updates.Given as goal

abbrev pub invariant-check_updates-loop-update : goal.invariant-check_updates-loop-update
invariant-check_updates-loop-update l = checked_updates (ranges_of l.ranges) (view_updates (drop l.update-index l.all)) ≡ checked_updates (ranges_of l.ranges) (view_updates l.all)

abbrev pub invariant-check_branches-loop-branch : goal.invariant-check_branches-loop-branch
invariant-check_branches-loop-branch l = checked_branches (ranges_of l.ranges) (view_update_branches (drop l.branch-index l.all)) ≡ checked_branches (ranges_of l.ranges) (view_update_branches l.all)
