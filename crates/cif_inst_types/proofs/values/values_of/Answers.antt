use Rattle.std.proofs.Common.{ap, map, ◌∙◌}
use Rattle.cif_source.specs.Source.{source_of}
use Rattle.cif_inst_constants.specs.Slots.{row_of}
use Rattle.cif_inst_constants.specs.declared.ranges.Types.{Types}
use Rattle.cif_inst_types.proofs.ValueLaws.{is-typed, values-told}
use Rattle.cif_inst_types.proofs.values.values_of.Goals as goal

pub returns : goal.returns
returns c =
    let q = c.requires in
    let x : Types = record { scopes = c.args.scopes; constants = c.args.constants; rows = c.as_slice.result } in
    values-told (source_of c.args.spec.now) x c.in_ok-turns.turns c.all_values.result
    (is-typed (source_of c.args.spec.now) x c.in_ok-turns.turns q.scopes.numbers q.components.few q.constancy q.values q.ranged
    (ap (map row_of) c.as_slice.ensures ∙ c.in_ok-rows.ensures) c.in_ok-turns.ensures)
    c.all_values.ensures
