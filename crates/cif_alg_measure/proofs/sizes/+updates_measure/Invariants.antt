use Rattle.std.proofs.Common.{◌≡◌, drop}
use Rattle.cif_net_expr.specs.View.{view_updates, view_update_branches}
use Rattle.cif_alg_measure.specs.Meanings.{stopped_table}
use Rattle.cif_alg_measure.specs.Sizes.{updates_counted, branches_counted}
use Rattle.cif_alg_measure.proofs.sizes.+updates_measure.Given as goal

abbrev pub invariant-updates_measure-loop-update : goal.invariant-updates_measure-loop-update
invariant-updates_measure-loop-update l = updates_counted (stopped_table l.algs) l.found (view_updates (drop l.update-index l.all)) ≡ updates_counted (stopped_table l.algs) l.fn.before (view_updates l.all)

abbrev pub invariant-branches_measure-loop-branch : goal.invariant-branches_measure-loop-branch
invariant-branches_measure-loop-branch l = branches_counted (stopped_table l.algs) l.found (view_update_branches (drop l.branch-index l.all)) ≡ branches_counted (stopped_table l.algs) l.fn.before (view_update_branches l.all)
