use Rattle.std.proofs.Common.{◌∙◌, sym, ap, refl, length}
use Rattle.std.specs.Prelude.{Ok, Err}
use Rattle.std.proofs.lemmas.List.{length-replicate}
use Rattle.cif_source.specs.Source.{source_of}
use Rattle.cif_inst_constants.specs.Nodes.{node_in, filled}
use Rattle.cif_inst_constants.specs.Used.{used_bodies}
use Rattle.cif_inst_constants.proofs.UsedLaws.{bodies-marked}
use Rattle.cif_inst_constants.proofs.DueLaws.{inside-is, values-are, refused-at}
use Rattle.cif_inst_constants.proofs.values.constant_values.Goals as goal

pub ordered-requires : goal.ordered-requires
ordered-requires c =
    inside-is (source_of c.args.spec.now) c.args.scopes.now (used_bodies c.args.scopes.now c.args.components.now) c.in_ok-graph.graph.numbers c.as_slice.result.now c.in_ok-graph.graph.constants.items
    (bodies-marked (source_of c.args.spec.now) c.args.scopes.now c.args.components.now c.requires.scopes.numbers c.requires.components c.requires.constancy)
    c.in_ok-graph.ensures.numbers c.in_ok-graph.ensures.constants (c.as_slice.ensures ∙ c.in_ok-graph.ensures.needs)

pub returns-in-Ok-clause-values : goal.returns-in-Ok-clause-values
returns-in-Ok-clause-values c =
    values-are (source_of c.args.spec.now) c.args.scopes.now (used_bodies c.args.scopes.now c.args.components.now) c.in_ok-graph.graph.numbers c.as_slice.result.now c.in_ok-graph.graph.constants.items c.in_ok-sorted.sorted c.in_ok-zeros.zeros
    (bodies-marked (source_of c.args.spec.now) c.args.scopes.now c.args.components.now c.requires.scopes.numbers c.requires.components c.requires.constancy)
    (record {
      numbered = c.in_ok-graph.ensures.numbers;
      listed = c.in_ok-graph.ensures.constants;
      needed = c.as_slice.ensures ∙ c.in_ok-graph.ensures.needs;
      ordered = c.in_ok-sorted.ensures;
      long = ap length c.in_ok-zeros.ensures ∙ length-replicate c.len.result _ ∙ c.len.ensures ∙ sym (ap length c.as_slice.ensures);
    })
    c.in-Ok.values (Ok c.in-Ok.values)
    (c.in-Ok.ensures ∙ (λ i. filled c.args.scopes.now (c.as_slice-2.ensures i) (node_in (c.as_slice-3.ensures.value i)) c.in_ok-zeros.zeros (c.as_slice-4.ensures i))) refl

pub returns-in-Err-clause-refused : goal.returns-in-Err-clause-refused
returns-in-Err-clause-refused c =
    refused-at (source_of c.args.spec.now) c.args.scopes.now (used_bodies c.args.scopes.now c.args.components.now) c.in_ok-graph.graph.numbers c.as_slice.result.now c.in_ok-graph.graph.constants.items c.in_ok-sorted.sorted c.in_ok-zeros.zeros
    (bodies-marked (source_of c.args.spec.now) c.args.scopes.now c.args.components.now c.requires.scopes.numbers c.requires.components c.requires.constancy)
    (record {
      numbered = c.in_ok-graph.ensures.numbers;
      listed = c.in_ok-graph.ensures.constants;
      needed = c.as_slice.ensures ∙ c.in_ok-graph.ensures.needs;
      ordered = c.in_ok-sorted.ensures;
      long = ap length c.in_ok-zeros.ensures ∙ length-replicate c.len.result _ ∙ c.len.ensures ∙ sym (ap length c.as_slice.ensures);
    })
    c.in-Err.at (Err c.in-Err.at)
    (c.in-Err.ensures ∙ (λ i. filled c.args.scopes.now (c.as_slice-2.ensures i) (node_in (c.as_slice-3.ensures.value i)) c.in_ok-zeros.zeros (c.as_slice-4.ensures i))) refl
