use Rattle.std.proofs.Common.{length, sym, ap, ◌∙◌}
use Rattle.std.proofs.lemmas.Slice.Zip.{zip_end}
use Rattle.cif_alg.proofs.EndLaws.{tallies-end}
use Rattle.cif_alg.proofs.counting.all_nodes.Goals as goal

pub returns : goal.returns
returns c =
    let l = c.loop-event in
    let start = c.into_iter-event-iterator.ensures.into_iter_gives in
    let all = zip_end c.args.events.now c.args.tallies.now l.yielded c.into_iter-event-iterator.result l.event-iterator c.next.new.self c.next.result
    (ap (λ z. z.a.rest.now) start ∙ (ap (λ x. x.rest.now) c.zip-event-items.ensures.first ∙ c.iter.ensures.rest))
    (ap (λ z. z.b.rest.now) start ∙ c.zip-event-items.ensures.second.0)
    l.yielded_by c.in-None.is c.next.ensures.steps in
    sym (tallies-end l.nodes c.args.events.now c.args.tallies.now (length l.yielded) all) ∙ l.invariant
