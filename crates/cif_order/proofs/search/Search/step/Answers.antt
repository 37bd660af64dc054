use Rattle.std.proofs.Common.{◌≡◌, ℕ, sym, subst, arith}
use Rattle.cif_system.specs.Words.{Chain}
use Rattle.cif_order.specs.Graph.{Needs}
use Rattle.cif_order.proofs.Lists.{get-past, member-get}
use Rattle.cif_order.proofs.SearchLaws.{last-open, last-inside, open-goes, advance-goes, finish-goes, open-cycle}
use Rattle.cif_order.proofs.search.Search.step.Goals as goal

pub mark-requires : goal.mark-requires
mark-requires c = last-inside _ _ _ _ _ _ c.requires.sound c.requires.last.1

pub unreachable-requires : goal.unreachable-requires
unreachable-requires c = let o = last-open _ _ _ _ _ _ _ c.requires.sound c.requires.last.1 c.mark.ensures in c.in_default.not-Open o.0 o.1

pub need_at-requires : goal.need_at-requires
need_at-requires c = let h = last-inside _ _ _ _ _ _ c.requires.sound c.requires.last.1 in omega (arith, c.requires.sound.sized)

pub finish-requires : goal.finish-requires
finish-requires c = last-inside _ _ _ _ _ _ c.requires.sound c.requires.last.1

pub set-requires : goal.set-requires
set-requires c = last-inside _ _ _ _ _ _ c.requires.sound c.requires.last.1

pub mark-requires-2 : goal.mark-requires-2
mark-requires-2 c =
    let h = c.requires.inside c.args.node c.in-Some.need (member-get _ _ _ (sym c.in-Some.ensures.need)) in omega (arith, c.requires.sound.sized)

pub open-requires : goal.open-requires
open-requires c =
    let h = c.requires.inside c.args.node c.in-Some.need (member-get _ _ _ (sym c.in-Some.ensures.need)) in omega (arith, c.requires.sound.sized)

pub returns-in_default-need_at-clause-step : goal.returns-in_default-need_at-clause-step
returns-in_default-need_at-clause-step c =
    let e = c.in_ok-finish.ensures in
    rw (e.marks, e.path c.requires.last.0 c.requires.last.1, e.order)
    (finish-goes _ _ _ _ _ _ _ c.requires.sound c.requires.last.1 c.in-Open.ensures (get-past _ _ c.in_default-need_at.ensures.need))

pub returns-in-Open-mark-clause-cycle : goal.returns-in-Open-mark-clause-cycle
returns-in-Open-mark-clause-cycle c = λ n h.
    let e : c.in-Some.need ≡ n = cc in
    let P : ℕ → Type 0 = λ x. Chain (Needs c.args.needs.now) x x in
    subst P e (open-cycle _ _ _ _ _ _ _ _ _ c.requires.sound c.requires.last.1 (sym c.in-Some.ensures.need) c.in-Open-mark.ensures)

pub returns-in_ok-open-in-New-clause-step : goal.returns-in_ok-open-in-New-clause-step
returns-in_ok-open-in-New-clause-step c =
    let e = c.in_ok-open-in-New.ensures in
    rw (e.marks, e.path, e.order)
    (open-goes _ _ _ _ _ _ _ _ c.requires.sound c.requires.last.1 (sym c.in-Some.ensures.need) c.in-New.ensures (c.requires.inside c.args.node c.in-Some.need (member-get _ _ _ (sym c.in-Some.ensures.need))))

pub returns-in-Done-clause-step : goal.returns-in-Done-clause-step
returns-in-Done-clause-step c =
    rw c.set.ensures (advance-goes _ _ _ _ _ _ _ c.requires.sound c.in-Open.ensures (sym c.in-Some.ensures.need) c.in-Done.ensures)
