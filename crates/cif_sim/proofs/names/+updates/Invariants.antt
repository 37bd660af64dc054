use Rattle.std.proofs.Common.{◌≡◌, ◌++◌, map, drop}
use Rattle.cif_net_expr.specs.View.{view_updates, view_update_branches}
use Rattle.cif_sim.specs.Names.{branches_names, name_read, updates_names}
use Rattle.cif_sim.proofs.names.+updates.Given as goal

abbrev pub invariant-add_updates-loop-update : goal.invariant-add_updates-loop-update
invariant-add_updates-loop-update l = map name_read l.found ++ updates_names (view_updates (drop l.update-index l.updates)) ≡ map name_read l.fn.found ++ updates_names (view_updates l.updates)

abbrev pub invariant-add_update_branches-loop-branch : goal.invariant-add_update_branches-loop-branch
invariant-add_update_branches-loop-branch l = map name_read l.found ++ branches_names (view_update_branches (drop l.branch-index l.branches)) ≡ map name_read l.fn.found ++ branches_names (view_update_branches l.branches)
