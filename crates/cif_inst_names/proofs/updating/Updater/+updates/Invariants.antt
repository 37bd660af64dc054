use Rattle.std.proofs.Common.{◌≡◌, ◌++◌, map, drop}
use Rattle.cif_ast.specs.View.{view_updates, view_update_branches}
use Rattle.cif_net_expr.specs.View as net
use Rattle.cif_inst_names.specs.ReadsNames.{home}
use Rattle.cif_inst_names.proofs.UpdateLaws.{made_updates, made_branches}
use Rattle.cif_inst_names.proofs.updating.Updater.+updates.Given as goal

abbrev pub invariant-updates-loop-one : goal.invariant-updates-loop-one
invariant-updates-loop-one l = map net.view_update l.made ++ made_updates (home l.self.looking.now l.self.component) (view_updates (drop l.one-index l.all)) ≡ made_updates (home l.self.looking.now l.self.component) (view_updates l.all)

abbrev pub invariant-branches-loop-branch : goal.invariant-branches-loop-branch
invariant-branches-loop-branch l = map net.view_update_branch l.made ++ made_branches (home l.self.looking.now l.self.component) (view_update_branches (drop l.branch-index l.branches)) ≡ made_branches (home l.self.looking.now l.self.component) (view_update_branches l.branches)
