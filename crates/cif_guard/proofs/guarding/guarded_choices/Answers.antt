use Rattle.std.proofs.Common.{rules, arith, map, ◌≡◌, ◌+◌, suc, take, drop, ◌++◌, subst, slice_set}
use Rattle.cif_net.specs.View.{net_tree, choice_tree}
use Rattle.cif_guard.specs.Tests.{guarded_from}
use Rattle.cif_guard.proofs.GuardLaws.{changed_further}
use Rattle.cif_guard.proofs.guarding.guarded_choices.Goals as goal

pub loop-choice-preserved : goal.loop-choice-preserved
loop-choice-preserved c =
    let xs = c.loop-choice.choice-items in
    let k = c.loop-choice.choice-index in
    let new = c.guard_choice.new.choice in
    let g = guarded_from (net_tree c.args.net.now) c.in_ok-places.places in
    let all = map choice_tree c.deref_mut-choice-items.result.now in
    let more : suc k ≡ k + 1 = omega arith in
    subst (λ j. map choice_tree (slice_set xs k new) ≡ map g (take j all) ++ drop j all) more
    (changed_further choice_tree g xs all k c.choice-item.result new c.loop-choice.invariant (search rules) c.in_ok-guard_choice.ensures)
