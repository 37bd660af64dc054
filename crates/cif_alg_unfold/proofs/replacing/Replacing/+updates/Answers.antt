use Rattle.std.proofs.Common.{map, ap, ◌∙◌}
use Rattle.cif_net_expr.specs.View.{view_update, view_updates, view_update_branch}
use Rattle.cif_net_model.specs.Inline.{updates_replaced}
use Rattle.cif_alg_unfold.specs.Tables.{by_table}
use Rattle.cif_alg_unfold.proofs.UpdateLaws.{updates_ended, branches_ended, branches_stepped}
use Rattle.cif_alg_unfold.proofs.replacing.Replacing.+updates.Goals as goal

pub updates-returns : goal.updates-returns
updates-returns t c = updates_ended (by_table c.args.self.now.by.now) (map view_update c.loop-one.made) c.args.all.now c.loop-one.one-index c.loop-one-test.false c.loop-one.invariant

pub update_branches-returns : goal.update_branches-returns
update_branches-returns t c = branches_ended (by_table c.args.self.now.by.now) (map view_update_branch c.loop-one.made) c.args.all.now c.loop-one.one-index c.loop-one-test.false c.loop-one.invariant

pub update_branches-loop-one-preserved : goal.update_branches-loop-one-preserved
update_branches-loop-one-preserved t c =
    branches_stepped (by_table c.args.self.now.by.now) c.loop-one.made _ c.args.all.now c.loop-one.one-index c.one-item.result c.update_branch.result c.loop-one-test.true c.one-item.is
    (c.update_branch.ensures ∙ (λ i. (c.in_ok-cond.ensures i, (c.in_ok-updates.ensures ∙ ap (λ us. updates_replaced (by_table c.args.self.now.by.now) (view_updates us)) c.as_slice.ensures) i)))
    c.in_ok-push.ensures.ok c.loop-one.invariant
