use Rattle.std.proofs.Common.{◌≡◌, ◌++◌, map, drop}
use Rattle.cif_ast.specs.View.{view_updates, view_update_branches}
use Rattle.cif_source.specs.BodyRules.{targets_of_all, targets_of_branches}
use Rattle.cif_types_targets.specs.Assigned.{numbered}
use Rattle.cif_types_targets.specs.Views.{assigned_of}
use Rattle.cif_types_targets.proofs.assigning.+assigning.Given as goal

abbrev pub invariant-add_updates-loop-update : goal.invariant-add_updates-loop-update
invariant-add_updates-loop-update l = map assigned_of l.found.items ++ map (numbered l.number) (targets_of_all (view_updates (drop l.update-index l.all)))
    ≡ map assigned_of l.fn.found.items ++ map (numbered l.number) (targets_of_all (view_updates l.all))

abbrev pub invariant-add_branches-loop-branch : goal.invariant-add_branches-loop-branch
invariant-add_branches-loop-branch l = map assigned_of l.found.items ++ map (numbered l.number) (targets_of_branches (view_update_branches (drop l.branch-index l.all)))
    ≡ map assigned_of l.fn.found.items ++ map (numbered l.number) (targets_of_branches (view_update_branches l.all))
