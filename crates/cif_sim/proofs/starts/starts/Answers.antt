use Rattle.std.proofs.Common.{◌≤◌, ◌<◌, ◌∙◌, [], ◌∷◌, ◌++◌, ap, length, arith}
use Rattle.std.specs.Prelude.{slice_get}
use Rattle.cif_sim.specs.Starts.{choices_below}
use Rattle.cif_eval.specs.Choices.{system_of}
use Rattle.cif_sim.proofs.Begun.{begun-more, begun-none}
use Rattle.cif_sim.proofs.Listed.{below-all, end-is}
use Rattle.cif_sim.proofs.starts.starts.Goals as goal

pub loop-event-init : goal.loop-event-init
loop-event-init c = begun-none c.args.guarded.now c.push.new.self (c.in_ok-push.ensures.ok ∙ ap (λ xs. xs ++ 0 ∷ []) c.new-starts.ensures)

pub end_of-next-requires-clause-from : goal.end_of-next-requires-clause-from
end_of-next-requires-clause-from c =
    let g = c.args.guarded.now in
    let inside : c.loop-event.event ≤ length g.plain.net.events = omega (arith, c.loop-event-test.true, c.requires) in
    let below : choices_below (system_of g) c.loop-event.event ≤ length g.choices = below-all g c.loop-event.event inside in
    omega (arith, below, c.loop-event.invariant.begins, c.in_ok-count.ensures, ap length c.as_slice-choices.ensures)

pub loop-event-preserved : goal.loop-event-preserved
loop-event-preserved c =
    let g = c.args.guarded.now in
    let inside : c.loop-event.event < length g.plain.net.events = omega (arith, c.loop-event-test.true, c.requires) in
    let within : c.end_of-next.result ≤ length g.choices = omega (arith, c.end_of-next.ensures.count, c.in_ok-count.ensures, ap length c.as_slice-choices.ensures) in
    begun-more (system_of g) c.loop-event.event c.loop-event.starts c.loop-event.next c.end_of-next.result c.push-in-loop-event.new.self c.loop-event.invariant
    (end-is g c.loop-event.event inside c.loop-event.next c.end_of-next.result c.loop-event.invariant.begins c.end_of-next.ensures.from within
    (λ k choice from to at. c.end_of-next.ensures.same k choice from to (ap (λ xs. slice_get xs k) c.as_slice-choices.ensures ∙ at))
    (λ choice at. c.end_of-next.ensures.other choice (ap (λ xs. slice_get xs c.end_of-next.result) c.as_slice-choices.ensures ∙ at)))
    c.in_ok-push-2.ensures.ok
