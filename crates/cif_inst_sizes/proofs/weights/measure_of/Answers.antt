use Rattle.std.proofs.Common.{length, map, sym, ◌∙◌, ap}
use Rattle.std.proofs.lemmas.List.{length-map}
use Rattle.cif_inst_sizes.specs.Counted.{none, values_counted}
use Rattle.cif_inst_sizes.specs.Definitions.{value_tree}
use Rattle.cif_inst_sizes.specs.Weights.{names_by}
use Rattle.cif_inst_sizes.specs.declared.measuring.Measurer.{Measurer}
use Rattle.cif_inst_sizes.proofs.WeightLaws.{knows, definition-told}
use Rattle.cif_inst_sizes.proofs.weights.measure_of.Goals as goal

pub values-requires : goal.values-requires
values-requires c = knows _ (record { names = c.requires.names; weights = c.requires.weights })

pub returns : goal.returns
returns c =
    let m : Measurer = record { looking = c.args.looking; weights = c.args.weights; component = c.args.definition.now.component } in
    let values = c.args.definition.now.values.items in
    definition-told m (map value_tree values) (length c.as_slice-values.result.now) c.in_ok-all.all c.chosen.result
    (ap length c.as_slice-values.ensures.value ∙ sym (length-map values value_tree))
    (c.in_ok-all.ensures ∙ ap (λ xs. values_counted (names_by m) none (map value_tree xs)) c.as_slice-values.ensures.value)
    c.chosen.ensures
