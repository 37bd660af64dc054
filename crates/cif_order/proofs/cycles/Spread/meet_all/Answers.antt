use Rattle.std.proofs.Common.{ℕ, length, inl, refl, ap, subst, arith}
use Rattle.cif_system.specs.Words.{Chain}
use Rattle.cif_order.specs.Graph.{Needs}
use Rattle.cif_order.proofs.Lists.{member-get}
use Rattle.cif_order.proofs.SpreadLaws.{need-reached, meeting-more, meeting-all, waiting-inside, need-read}
use Rattle.cif_order.proofs.cycles.Spread.meet_all.Goals as goal

pub needs_at-list-requires : goal.needs_at-list-requires
needs_at-list-requires c = waiting-inside _ _ _ _ _ c.requires.spread c.requires.start (inl refl)

pub returns-then-need-start : goal.returns-then-need-start
returns-then-need-start c =
    let needs = c.args.needs.now in
    let at = need-read _ _ c.loop-need.need-index c.needs_at-list.ensures c.loop-need-test.true in
    let P : ℕ → Type 0 = λ y. Chain (Needs needs) c.args.start y in
    subst P c.if-need-start.true (need-reached _ _ _ _ _ _ c.loop-need.invariant.spread (member-get _ _ _ at))

pub meet-requires : goal.meet-requires
meet-requires c =
    let at = need-read _ _ c.loop-need.need-index c.needs_at-list.ensures c.loop-need-test.true in
    let h = c.requires.inside c.args.node _ (member-get _ _ _ at) in
    let s = c.loop-need.invariant.spread.sized in omega (arith, h, s)

pub loop-need-preserved : goal.loop-need-preserved
loop-need-preserved c =
    let at = need-read _ _ c.loop-need.need-index c.needs_at-list.ensures c.loop-need-test.true in
    let e = c.in_ok-meet.ensures in
    meeting-more _ _ _ _ _ _ _ _ _ _ c.loop-need.invariant at c.if-need-start.false (c.requires.inside c.args.node _ (member-get _ _ _ at)) e.met e.again e.first

pub returns : goal.returns
returns c = meeting-all _ _ _ _ _ _ _ c.loop-need.invariant (let e = ap length c.needs_at-list.ensures in omega (arith, e))
