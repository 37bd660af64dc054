use Rattle.std.proofs.Common.{◌≡◌, ◌-◌, ◌+◌, ◌∙◌, ap, arith, find, refl, subst, sym}
use Rattle.std.specs.List.{range_with_len}
use Rattle.cif_net.specs.View.{state_tree}
use Rattle.cif_net.specs.declared.guarded.Guarded.{Guarded}
use Rattle.cif_sim.specs.Tried.{has_step}
use Rattle.cif_sim.specs.Waking.{AreIdle}
use Rattle.cif_sim.proofs.Events.{find-later, first-of-all, is-found, not-found}
use Rattle.cif_sim.proofs.Passing.{past}
use Rattle.cif_sim.proofs.stepper.Stepper.first.Goals as goal

pub loop-event-init : goal.loop-event-init
loop-event-init c =
    let g = c.args.self.now in
    let s = state_tree c.args.state.now in
    record {
      net = refl;
      idle = c.requires.idle;
      rest =
          past g s c.args.marks.now c.requires.idle 0 c.next-event.result c.events-events.result c.next-event.ensures.from c.next-event.ensures.within c.events-events.ensures c.next-event.ensures.passed
          ∙ ap (λ n. find (has_step g s) (range_with_len 0 n)) (let q : c.events-events.result - 0 ≡ c.events-events.result = omega arith in q);
    }

pub returns-then-tries-clause-first : goal.returns-then-tries-clause-first
returns-then-tries-clause-first c =
    let g = c.args.self.now in
    let s = state_tree c.args.state.now in
    is-found (has_step g s) c.events-events.result _ (ap (λ n. find (has_step g s) (range_with_len 0 n)) c.events-events.ensures ∙ first-of-all g s) c.loop-event.event c.loop-event.invariant.rest
    c.loop-event-test.true (c.if-tries.ensures.step ∙ ap (λ (x : Guarded). has_step x s c.loop-event.event) c.loop-event.invariant.net)

pub loop-event-preserved : goal.loop-event-preserved
loop-event-preserved c =
    let g = c.args.self.now in
    let s = state_tree c.args.state.now in
    let idle : AreIdle c.args.self.now (state_tree c.args.state.now) c.tries.new.marks = subst (λ (x : Guarded). AreIdle x (state_tree c.args.state.now) c.tries.new.marks) c.loop-event.invariant.net c.tries.ensures.idle in
    record {
      net = c.tries.ensures.net ∙ c.loop-event.invariant.net;
      idle = idle;
      rest =
          past g s c.tries.new.marks idle (c.loop-event.event + 1) c.next-event-in-loop-event.result c.events-events.result c.next-event-in-loop-event.ensures.from c.next-event-in-loop-event.ensures.within c.events-events.ensures c.next-event-in-loop-event.ensures.passed
          ∙ find-later (has_step g s) c.loop-event.event c.events-events.result c.loop-event-test.true
          (sym (c.if-tries.ensures.step ∙ ap (λ (x : Guarded). has_step x s c.loop-event.event) c.loop-event.invariant.net))
          ∙ c.loop-event.invariant.rest;
    }

pub returns-clause-first : goal.returns-clause-first
returns-clause-first c =
    let g = c.args.self.now in
    let s = state_tree c.args.state.now in
    not-found (has_step g s) c.events-events.result _ (ap (λ n. find (has_step g s) (range_with_len 0 n)) c.events-events.ensures ∙ first-of-all g s) c.loop-event.event c.loop-event.invariant.rest
    c.loop-event-test.false
