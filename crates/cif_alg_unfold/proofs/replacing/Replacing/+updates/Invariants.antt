use Rattle.std.proofs.Common.{◌≡◌, ◌++◌, map, drop}
use Rattle.cif_net_expr.specs.View.{view_update, view_updates, view_update_branch, view_update_branches}
use Rattle.cif_alg_unfold.specs.Tables.{by_table}
use Rattle.cif_alg_unfold.proofs.UpdateLaws.{made_updates, made_branches}
use Rattle.cif_alg_unfold.proofs.replacing.Replacing.+updates.Given as goal

abbrev pub invariant-updates-loop-one : goal.invariant-updates-loop-one
invariant-updates-loop-one l = map view_update l.made ++ made_updates (by_table l.self.by.now) (view_updates (drop l.one-index l.all)) ≡ made_updates (by_table l.self.by.now) (view_updates l.all)

abbrev pub invariant-update_branches-loop-one : goal.invariant-update_branches-loop-one
invariant-update_branches-loop-one l = map view_update_branch l.made ++ made_branches (by_table l.self.by.now) (view_update_branches (drop l.one-index l.all)) ≡ made_branches (by_table l.self.by.now) (view_update_branches l.all)
