use Rattle.std.proofs.Common.{◌≡◌, drop}
use Rattle.cif_net_expr.specs.View.{view_updates, view_update_branches}
use Rattle.cif_why_lines.specs.Searches.{searched_all, searched_in}
use Rattle.cif_why_lines.proofs.targets.+searching.Given as goal

abbrev pub invariant-search_all-loop-update : goal.invariant-search_all-loop-update
invariant-search_all-loop-update l = searched_all (view_updates (drop l.update-index l.updates)) l.left ≡ searched_all (view_updates l.updates) l.number

abbrev pub invariant-search_branches-loop-branch : goal.invariant-search_branches-loop-branch
invariant-search_branches-loop-branch l = searched_in (view_update_branches (drop l.branch-index l.branches)) l.left ≡ searched_in (view_update_branches l.branches) l.number
