use Rattle.std.proofs.Common.{◌∙◌, ap, sym, refl, length, List, Some}
use Rattle.std.specs.Prelude.{slice_get}
use Rattle.std.proofs.lemmas.Option.{slice_get_read}
use Rattle.cif_ast.specs.declared.declarations.Param.{Param}
use Rattle.cif_ast.specs.declared.expressions.Form.TheFolds as forms
use Rattle.cif_ast.specs.View.{view}
use Rattle.cif_types_kinds.specs.Tables.{channel_for, channel_at_slot}
use Rattle.cif_types_kinds.specs.Readings.{component_in, lists_in}
use Rattle.cif_types_arguments.specs.Classes.{params_at}
use Rattle.cif_types_arguments.proofs.FitLaws.{misfit_told}
use Rattle.cif_types_arguments.proofs.checking.check_argument.Goals as goal

pub returns-else-branch : goal.returns-else-branch
returns-else-branch c =
    misfit_told (component_in c.args.reading.now) (channel_for (lists_in c.args.reading.now) (channel_at_slot c.args.reading.now.table.now c.args.definition c.args.slot))
    (channel_for (lists_in c.args.reading.now) c.channel-channel.result) (slice_get (params_at c.args.all.now c.args.definition) c.args.slot) c.in-Some.param.now (view c.args.value.now) c.in_ok-fits.field-0
    (ap (λ (ps : List Param). slice_get ps c.args.slot) (sym c.params_at.ensures)
    ∙ slice_get_read c.params_at.result.now (length c.params_at.result.now) c.args.slot c.in-Some.param.now refl c.in-Some.ensures.lookup.3.0 c.in-Some.ensures.lookup.1)
    (ap (channel_for (lists_in c.args.reading.now)) c.channel-channel.ensures) c.in_ok-fits.ensures c.if-branch.false
    ∙ ap (λ x. Some x) (search (forms.the_lemmas))
