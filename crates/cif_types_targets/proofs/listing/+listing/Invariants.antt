use Rattle.std.proofs.Common.{◌≡◌, ◌++◌, map, drop}
use Rattle.cif_ast.specs.View.{view_updates, view_update_branches}
use Rattle.cif_source.specs.BodyRules.{lists_in_all, lists_in_branches}
use Rattle.cif_types_targets.specs.Views.{list_of}
use Rattle.cif_types_targets.proofs.listing.+listing.Given as goal

abbrev pub invariant-add_updates-loop-update : goal.invariant-add_updates-loop-update
invariant-add_updates-loop-update l = map list_of l.found.items ++ lists_in_all (view_updates (drop l.update-index l.all)) ≡ map list_of l.fn.found.items ++ lists_in_all (view_updates l.all)

abbrev pub invariant-add_branches-loop-branch : goal.invariant-add_branches-loop-branch
invariant-add_branches-loop-branch l = map list_of l.found.items ++ lists_in_branches (view_update_branches (drop l.branch-index l.all)) ≡ map list_of l.fn.found.items ++ lists_in_branches (view_update_branches l.all)
