use Rattle.std.proofs.Common.{◌≡◌, drop}
use Rattle.cif_ast.specs.View.{view_updates, view_update_branches}
use Rattle.cif_inst_sizes.specs.Counted.{updates_counted, update_branches_counted}
use Rattle.cif_inst_sizes.specs.Weights.{names_by}
use Rattle.cif_inst_sizes.proofs.measuring.Measurer.+updates.Given as goal

abbrev pub invariant-updates-loop-update : goal.invariant-updates-loop-update
invariant-updates-loop-update l = updates_counted (names_by l.self) l.found (view_updates (drop l.update-index l.all)) ≡ updates_counted (names_by l.self) l.fn.before (view_updates l.all)

abbrev pub invariant-update_branches-loop-branch : goal.invariant-update_branches-loop-branch
invariant-update_branches-loop-branch l = update_branches_counted (names_by l.self) l.found (view_update_branches (drop l.branch-index l.all)) ≡ update_branches_counted (names_by l.self) l.fn.before (view_update_branches l.all)
