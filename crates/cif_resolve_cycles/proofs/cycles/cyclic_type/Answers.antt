use Rattle.std.proofs.Common.{◌∙◌}
use Rattle.cif_source.specs.Source.{source_of}
use Rattle.cif_resolve_cycles.proofs.AnswerLaws.{names-inside, type-told, no-type}
use Rattle.cif_resolve_cycles.proofs.cycles.cyclic_type.Goals as goal

pub cyclic_node-requires : goal.cyclic_node-requires
cyclic_node-requires c = names-inside (source_of c.args.spec.now) c.args.scopes.now c.requires c.as_slice.result.now (c.as_slice.ensures ∙ c.in_ok-graph.ensures)

pub returns-in-Some : goal.returns-in-Some
returns-in-Some c =
    type-told (source_of c.args.spec.now) c.args.scopes.now c.requires c.as_slice.result.now c.in-Some.name c.in_ok-name.field-0 c.place_of.result (c.as_slice.ensures ∙ c.in_ok-graph.ensures) c.in_ok-name.ensures c.in-Some.is c.place_of.ensures

pub returns : goal.returns
returns c = no-type (source_of c.args.spec.now) c.args.scopes.now c.requires c.as_slice.result.now c.in_ok-name.field-0 (c.as_slice.ensures ∙ c.in_ok-graph.ensures) c.in_ok-name.ensures c.in-None.is
