use Rattle.std.proofs.Common.{map, ◌∙◌, ap}
use Rattle.cif_inst_parameters.specs.Given.{given_items}
use Rattle.cif_inst_names.specs.Looking.{source_for, component_at}
use Rattle.cif_inst_sizes.specs.Definitions.{definition_names, definition_tree}
use Rattle.cif_inst_sizes.specs.Naming.{AreArguments}
use Rattle.cif_inst_sizes.specs.Needs.{use_name}
use Rattle.cif_inst_sizes.proofs.GrowLaws.{names-needed}
use Rattle.cif_inst_sizes.proofs.needs.definition_needs.Goals as goal

pub returns-clause-needed : goal.returns-clause-needed
returns-clause-needed c =
    let l = c.args.looking.now in
    let w = c.args.weights.now in
    names-needed (source_for l) w.count (component_at l c.args.definition.now.component) (AreArguments (map given_items l.given.now) w.firsts) c.as_slice.result.now (definition_names (definition_tree c.args.definition.now))
    c.needs_of.result (ap (map use_name) c.as_slice.ensures.value ∙ c.in_ok-names.ensures) c.needs_of.ensures.needed
