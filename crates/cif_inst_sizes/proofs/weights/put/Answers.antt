use Rattle.std.proofs.Common.{refl, length, map, ◌∙◌, ap}
use Rattle.std.specs.Prelude.{option_map}
use Rattle.std.proofs.lemmas.Option.{slice_get-map, slice_get_read}
use Rattle.cif_inst_sizes.specs.Definitions.{definition_tree}
use Rattle.cif_inst_sizes.proofs.FillLaws.{table-weighed}
use Rattle.cif_inst_sizes.proofs.WeightLaws.{weights}
use Rattle.cif_inst_sizes.proofs.weights.put.Goals as goal

pub measure_of-requires-clause-weights : goal.measure_of-requires-clause-weights
measure_of-requires-clause-weights c = weights c.args.looking.now c.args.weights.now (map definition_tree c.args.definitions.now) c.requires.weighed

pub returns : goal.returns
returns c =
    let ds = c.args.definitions.now in
    let found = c.in-Some.ensures.lookup in
    table-weighed c.args.looking.now (map definition_tree ds) c.args.weights.now c.set.new.self c.args.number (definition_tree c.in-Some.definition.now) c.in_ok-measure.measure c.requires.weighed
    (slice_get-map definition_tree ds c.args.number ∙ ap (option_map definition_tree) (slice_get_read ds (length ds) c.args.number c.in-Some.definition.now refl found.3.0 found.1))
    c.in_ok-measure.ensures c.set.ensures
