use Rattle.std.proofs.Common.{◌≡◌, ◌<◌, ◌+◌, length, map, sym, ap, subst, ◌∙◌, arith}
use Rattle.std.specs.List.{AllByRecursion}
use Rattle.cif_system.proofs.Lists.{map-length}
use Rattle.cif_net.specs.View.{choice_tree, event_tree, net_tree}
use Rattle.plc_frame.specs.Given.{part_tree}
use Rattle.plc_frame.specs.declared.given.Part.{Part}
use Rattle.plc_event_model.specs.ProgramParts.{net_parts}
use Rattle.plc_gen.specs.Named.{IsNamedChoice}
use Rattle.plc_gen.specs.Order.{leading}
use Rattle.plc_gen.proofs.Eventwise.{all-done, all-first, all-later, first-as, left-as, own-more, parts-more, pushed-as, still-ascends}
use Rattle.plc_gen.proofs.parts.all_parts.Goals as goal

pub event_part_of-requires-clause-named : goal.event_part_of-requires-clause-named
event_part_of-requires-clause-named c =
    let all = map choice_tree c.loop-event.rest.now in
    let count = leading c.loop-event.event all in
    let named = IsNamedChoice (net_tree c.args.net.now) in
    subst (AllByRecursion named) (sym (first-as choice_tree c.loop-event.rest.now c.split_at.result.0.now c.count_of.result count c.split_at.ensures.front c.count_of.ensures.count))
    (all-first named count all c.loop-event.invariant.named)

pub loop-event-preserved : goal.loop-event-preserved
loop-event-preserved c =
    let n = net_tree c.args.net.now in
    let event = c.loop-event.event in
    let next = c.loop-event.next in
    let all = map choice_tree c.loop-event.rest.now in
    let here = map choice_tree c.split_at.result.0.now in
    let later = map choice_tree c.split_at.result.1.now in
    let count = leading event all in
    let named = IsNamedChoice n in
    let done = map part_tree c.loop-event.parts in
    let pushed = map part_tree c.push.new.self in
    let part = part_tree c.in_ok-part.part in
    let here_is = first-as choice_tree c.loop-event.rest.now c.split_at.result.0.now c.count_of.result count c.split_at.ensures.front c.count_of.ensures.count in
    let later_is = left-as choice_tree c.loop-event.rest.now c.split_at.result.1.now c.count_of.result count c.split_at.ensures.back c.count_of.ensures.count in
    let pushed_is = pushed-as c.loop-event.parts c.push.new.self c.in_ok-part.part c.into_inner.result c.in_ok-push.ensures.ok c.into_inner.ensures in
    let more_is : c.in_ok-next.next ≡ next + length part.own = c.in_ok-next.ensures ∙ ap (λ k. next + k) (c.len.ensures ∙ ap (λ (p : Part). length p.own) c.get.ensures) in
    let before : event < length n.events =
    let below = c.loop-event-test.true in let end = c.len-event-end.ensures in let events = map-length event_tree c.args.net.now.events in omega (arith, below, end, events) in
    record {
      parts = parts-more n all here later event next c.loop-event.invariant.ascending here_is later_is part c.in_ok-part.ensures.part done pushed (length n.events) c.in_ok-next.next pushed_is more_is before ∙ c.loop-event.invariant.parts;
      named = subst (AllByRecursion named) (sym later_is) (all-later named count all c.loop-event.invariant.named);
      ascending = still-ascends n all here later event next c.loop-event.invariant.ascending here_is later_is;
      names = c.in_ok-part.ensures.still_names;
      same = c.in_ok-part.ensures.still_same;
      next = own-more done pushed part next c.in_ok-next.next pushed_is c.loop-event.invariant.next more_is;
    }

pub returns-clause-parts : goal.returns-clause-parts
returns-clause-parts c =
    let n = net_tree c.args.net.now in
    let past = c.loop-event-test.false in
    let end = c.len-event-end.ensures in
    let events = map-length event_tree c.args.net.now.events in
    all-done n (map choice_tree c.loop-event.rest.now) c.loop-event.next c.loop-event.event (map part_tree c.loop-event.parts) (net_parts n (map choice_tree c.args.choices.now)) (omega (arith, past, end, events)) c.loop-event.invariant.parts
