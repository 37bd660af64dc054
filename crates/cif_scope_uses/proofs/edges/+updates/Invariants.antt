use Rattle.std.proofs.Common.{◌≡◌, ◌++◌, map, drop}
use Rattle.cif_ast.specs.View.{view_updates, view_update_branches}
use Rattle.cif_source.specs.Uses.{updates_uses, branches_uses}
use Rattle.cif_scope_uses.specs.Views.{use_of}
use Rattle.cif_scope_uses.proofs.edges.+updates.Given as goal

abbrev pub invariant-add_updates-loop-update : goal.invariant-add_updates-loop-update
invariant-add_updates-loop-update l = map use_of l.found.items ++ updates_uses (view_updates (drop l.update-index l.all)) ≡ map use_of l.fn.found.items ++ updates_uses (view_updates l.all)

abbrev pub invariant-add_branches-loop-branch : goal.invariant-add_branches-loop-branch
invariant-add_branches-loop-branch l = map use_of l.found.items ++ branches_uses (view_update_branches (drop l.branch-index l.all)) ≡ map use_of l.fn.found.items ++ branches_uses (view_update_branches l.all)
