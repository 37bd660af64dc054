use Rattle.std.proofs.Common.{map}
use Rattle.cif_net_expr.specs.View as net
use Rattle.cif_inst_names.specs.ReadsNames.{home}
use Rattle.cif_inst_names.proofs.UpdateLaws.{updates_ended, branches_ended}
use Rattle.cif_inst_names.proofs.updating.Updater.+updates.Goals as goal

pub updates-returns : goal.updates-returns
updates-returns t c =
    updates_ended (home c.args.self.now.looking.now c.args.self.now.component) (map net.view_update c.loop-one.made) c.args.all.now c.loop-one.one-index c.loop-one-test.false c.loop-one.invariant

pub branches-returns : goal.branches-returns
branches-returns t c =
    branches_ended (home c.args.self.now.looking.now c.args.self.now.component) (map net.view_update_branch c.loop-branch.made) c.args.branches.now c.loop-branch.branch-index c.loop-branch-test.false c.loop-branch.invariant
