use Rattle.std.proofs.Common.{◌∙◌}
use Rattle.cif_source.specs.Source.{source_of}
use Rattle.cif_resolve_cycles.proofs.AnswerLaws.{bodies-inside, definition-told, no-definition}
use Rattle.cif_resolve_cycles.proofs.cycles.cyclic_definition.Goals as goal

pub cyclic_node-requires : goal.cyclic_node-requires
cyclic_node-requires c = bodies-inside (source_of c.args.spec.now) c.args.scopes.now c.requires c.as_slice.result.now (c.as_slice.ensures ∙ c.in_ok-graph.ensures)

pub returns-in-Some : goal.returns-in-Some
returns-in-Some c =
    definition-told (source_of c.args.spec.now) c.args.scopes.now c.requires c.as_slice.result.now c.as_slice-in-Some.result.now c.in-Some.body c.in_ok-body.field-0 c.nearest.result
    (c.as_slice.ensures ∙ c.in_ok-graph.ensures) (c.as_slice-in-Some.ensures ∙ c.in_ok-places-in-Some.ensures) c.in_ok-body.ensures c.in-Some.is c.nearest.ensures

pub returns : goal.returns
returns c = no-definition (source_of c.args.spec.now) c.args.scopes.now c.requires c.as_slice.result.now c.in_ok-body.field-0 (c.as_slice.ensures ∙ c.in_ok-graph.ensures) c.in_ok-body.ensures c.in-None.is
