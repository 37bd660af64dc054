use Rattle.std.proofs.Common.{length, refl, sym, ◌∙◌}
use Rattle.std.proofs.lemmas.Option.{slice_get_read, slice_get_past}
use Rattle.cif_net.specs.View.{edge_tree}
use Rattle.cif_alg_measure.proofs.Received.{received_some, received_none}
use Rattle.cif_alg_measure.proofs.widths.received_range.Goals as goal

pub returns-in-Some : goal.returns-in-Some
returns-in-Some c =
    c.channel_range.ensures
    ∙ sym (received_some c.args.events.now (edge_tree c.args.edge.now) c.in-Some.event.now (slice_get_read c.args.events.now (length c.args.events.now) c.args.edge.now.event c.in-Some.event.now refl c.in-Some.ensures.lookup.3.0 c.in-Some.ensures.lookup.1))

pub returns-in-None : goal.returns-in-None
returns-in-None c = c.truths.ensures ∙ sym (received_none c.args.events.now (edge_tree c.args.edge.now) (slice_get_past c.args.events.now c.args.edge.now.event c.in-None.ensures.lookup.3))
