use Rattle.std.proofs.Common.{◌≡◌, List, map, sym, ◌∙◌, ap, subst}
use Rattle.std.specs.Prelude.{IfOk}
use Rattle.cif_net.specs.View.{event_tree}
use Rattle.cif_net.specs.declared.events.Event.{Event}
use Rattle.cif_inst.specs.Events.{rows_events, made_event, StandAll}
use Rattle.cif_inst.specs.Typing.{typed_source}
use Rattle.cif_inst.specs.Views.{event_datum}
use Rattle.cif_inst.proofs.EventLaws.{all_stand, all_found}
use Rattle.cif_inst.proofs.events.all_events.Goals as goal

pub made_events-requires : goal.made_events-requires
made_events-requires c =
    subst (StandAll c.args.typing.now)
    (sym (ap (map event_datum) c.as_slice.ensures.value ∙ all_found (map event_datum c.loop-place.found.items) c.args.rows.now c.loop-place.place c.loop-place-test.false c.loop-place.invariant ∙ ap (rows_events 0) c.requires.rows))
    (all_stand c.args.typing.now c.requires.types)

pub returns : goal.returns
returns c =
    subst (λ es. IfOk c.made_events.result (λ (all : List Event). map event_tree all ≡ map (made_event (typed_source c.args.typing.now)) es))
    (ap (map event_datum) c.as_slice.ensures.value ∙ all_found (map event_datum c.loop-place.found.items) c.args.rows.now c.loop-place.place c.loop-place-test.false c.loop-place.invariant)
    c.made_events.ensures
