use Rattle.std.proofs.Common.{◌≡◌, ◌++◌, map, drop}
use Rattle.cif_ast.specs.View.{view_updates, view_update_branches}
use Rattle.cif_source.specs.BodyRules.{targets_of_all, targets_of_branches}
use Rattle.cif_inst_names.specs.Places.{name_place}
use Rattle.cif_inst_names.proofs.places.+targets.Given as goal

abbrev pub invariant-add_targets-loop-update : goal.invariant-add_targets-loop-update
invariant-add_targets-loop-update l = l.places ++ map name_place (targets_of_all (view_updates (drop l.update-index l.all))) ≡ l.fn.places ++ map name_place (targets_of_all (view_updates l.all))

abbrev pub invariant-add_branch_targets-loop-branch : goal.invariant-add_branch_targets-loop-branch
invariant-add_branch_targets-loop-branch l = l.places ++ map name_place (targets_of_branches (view_update_branches (drop l.branch-index l.all))) ≡ l.fn.places ++ map name_place (targets_of_branches (view_update_branches l.all))
