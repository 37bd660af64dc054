use Rattle.std.proofs.Common.{◌∙◌, ap, sym, true, false}
use Rattle.cif_types_kinds.specs.Tables.{channel_for}
use Rattle.cif_types_kinds.specs.Readings.{component_in, lists_in}
use Rattle.cif_types_kinds.proofs.NameLaws.{body_scope, name_channel}
use Rattle.cif_types_arguments.specs.Classes.{has_class}
use Rattle.cif_types_arguments.proofs.ClassLaws.{is_asked}
use Rattle.cif_types_arguments.proofs.FitLaws.{event_fits}
use Rattle.cif_types_arguments.proofs.fitting.fits_event.Goals as goal

pub find-requires : goal.find-requires
find-requires c = body_scope c.args.reading.now c.requires.reading

pub returns-then-is_same_channel : goal.returns-then-is_same_channel
returns-then-is_same_channel c =
    event_fits (component_in c.args.reading.now) (channel_for (lists_in c.args.reading.now) c.args.channel) (channel_for (lists_in c.args.reading.now) c.channel_found-sends.result) c.args.class c.args.name.now
    true c.has_class-has.result (sym c.if-is_same_channel.true ∙ c.is_same_channel.ensures)
    (ap (channel_for (lists_in c.args.reading.now)) c.channel_found-sends.ensures ∙ name_channel c.args.reading.now c.args.name.now c.in_ok-found.found c.requires.reading (λ t d h is. c.in_ok-found.ensures t d h is))
    (c.has_class-has.ensures ∙ ap (has_class c.args.class) c.class_found.ensures
    ∙ is_asked c.args.reading.now c.args.all.now c.args.name.now c.in_ok-found.found c.args.class c.requires.reading c.requires.all (λ t d h is. c.in_ok-found.ensures t d h is))

pub returns-else-is_same_channel : goal.returns-else-is_same_channel
returns-else-is_same_channel c =
    c.if-is_same_channel.false
    ∙ event_fits (component_in c.args.reading.now) (channel_for (lists_in c.args.reading.now) c.args.channel) (channel_for (lists_in c.args.reading.now) c.channel_found-sends.result) c.args.class c.args.name.now
    false c.has_class-has.result (sym c.if-is_same_channel.false ∙ c.is_same_channel.ensures)
    (ap (channel_for (lists_in c.args.reading.now)) c.channel_found-sends.ensures ∙ name_channel c.args.reading.now c.args.name.now c.in_ok-found.found c.requires.reading (λ t d h is. c.in_ok-found.ensures t d h is))
    (c.has_class-has.ensures ∙ ap (has_class c.args.class) c.class_found.ensures
    ∙ is_asked c.args.reading.now c.args.all.now c.args.name.now c.in_ok-found.found c.args.class c.requires.reading c.requires.all (λ t d h is. c.in_ok-found.ensures t d h is))
