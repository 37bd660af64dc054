use Rattle.std.proofs.Common.{◌∙◌, ap, sym, arith, drop, length, true, replicate}
use Rattle.cif_sim.specs.Marks.{woken_one}
use Rattle.cif_sim.proofs.Marked.{all-long, take-front, woken-below, woken-past}
use Rattle.cif_sim.proofs.marks.Marks.wake.Goals as goal

pub returns-then-number-self : goal.returns-then-number-self
returns-then-number-self c =
    sym (woken-below c.args.number c.self.inside.marks.items (omega (arith, c.if-number-self.true, c.self.invariant.counted)))
    ∙ ap (woken_one c.args.number) c.self.view_is

pub returns-else-number-self : goal.returns-else-number-self
returns-else-number-self c =
    let slice = c.deref_mut-else-number-self in
    take-front c.fill.new.marks (drop (length c.fill.new.marks) c.self.inside.marks.items) c.self.inside.marks.len (omega (arith, slice.ensures.len, ap length c.fill.ensures, all-long (length slice.result.now)))
    ∙ c.fill.ensures
    ∙ ap (λ n. replicate n true) (ap length slice.ensures.value)
    ∙ sym (woken-past c.args.number c.self.inside.marks.items (omega (arith, c.if-number-self.false, c.self.invariant.counted)))
    ∙ ap (woken_one c.args.number) c.self.view_is
