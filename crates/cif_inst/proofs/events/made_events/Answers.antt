use Rattle.std.proofs.Common.{[], ◌∷◌, ◌++◌, map, ◌∙◌, ap}
use Rattle.std.proofs.lemmas.List.{map-append}
use Rattle.cif_net_model.specs.Net.{NetEvent}
use Rattle.cif_net.specs.View.{event_tree}
use Rattle.cif_inst.specs.Events.{made_event}
use Rattle.cif_inst.specs.Typing.{typed_source}
use Rattle.cif_inst.specs.Views.{event_datum}
use Rattle.cif_inst.proofs.EventLaws.{event_listed, event_more}
use Rattle.cif_inst.proofs.events.made_events.Goals as goal

pub event-requires : goal.event-requires
event-requires c = c.requires (event_datum c.one-item.result) (event_listed c.args.found.now c.loop-one.one-index c.one-item.result c.loop-one-test.true c.one-item.is)

pub loop-one-preserved : goal.loop-one-preserved
loop-one-preserved c =
    event_more (made_event (typed_source c.args.typing.now)) c.args.found.now c.loop-one.one-index c.one-item.result (map event_tree c.loop-one.all) (map event_tree c.push.new.self)
    (map (made_event (typed_source c.args.typing.now)) (map event_datum c.args.found.now)) c.loop-one-test.true c.one-item.is
    (
    ap (map event_tree) c.in_ok-push.ensures.ok
    ∙ map-append event_tree c.loop-one.all (c.in_ok-event.field-0 ∷ [])
    ∙ ap (λ (x : NetEvent). map event_tree c.loop-one.all ++ x ∷ []) c.in_ok-event.ensures
    )
    c.loop-one.invariant
