use Rattle.std.proofs.Common.{◌≡◌, ℕ, true, ◌++◌, rules, map, sym, subst, ◌∙◌, ap}
use Rattle.cif_net.specs.View.{event_tree}
use Rattle.cif_net_model.specs.Counts as counts
use Rattle.cif_alg_measure.specs.Sizes.{AreMeasured}
use Rattle.cif_inst_model.specs.Flat.{net_of_source}
use Rattle.cif_inst_names.specs.Looking.{source_for}
use Rattle.cif_inst_paths.specs.Names.{AreMatchedNames}
use Rattle.cif_inst_paths.specs.Views.{row_tree}
use Rattle.cif_inst_sizes.specs.Definitions.{definition_tree}
use Rattle.cif_inst_predicates.specs.Weights.{AreWeightsOf}
use Rattle.cif_inst.specs.Measures.{predicate_weights, rows_weights}
use Rattle.cif_inst.specs.Net.{due}
use Rattle.cif_inst.proofs.DefinitionLaws.{definitions-are}
use Rattle.cif_inst_sizes.proofs.DefinitionLaws.{exact-alg}
use Rattle.cif_inst.proofs.NetLaws.{matched_names, source_fits}
use Rattle.cif_inst.proofs.SizeLaws.{IsOutlined, size_due}
use Rattle.cif_inst.proofs.instantiating.check_expressions.Goals as goal

pub weights_of-requires-clause-definitions : goal.weights_of-requires-clause-definitions
weights_of-requires-clause-definitions c =
    definitions-are (source_for c.args.looking.now) c.requires.names.components.few c.requires.kinds.single (map row_tree c.args.rows.now) c.requires.rows
    (map definition_tree c.in_ok-definitions.definitions.items) c.in_ok-definitions.ensures

pub predicate_weights-requires-clause-names : goal.predicate_weights-requires-clause-names
predicate_weights-requires-clause-names c = matched_names c.args.looking.now c.requires.names c.requires.kinds

pub returns-in_err-check_sizes : goal.returns-in_err-check_sizes
returns-in_err-check_sizes c =
    let l = c.args.looking.now in
    let exact : c.in_ok-weights.weights.exact ≡ true = c.if-not-weights.false in
    let same = exact-alg l c.in_ok-weights.weights exact in
    let names : AreMatchedNames l = matched_names l c.requires.names c.requires.kinds in
    let outlined : IsOutlined l (map row_tree c.args.rows.now) c.args.alphabets.now (map event_tree c.args.events.now) c.in_ok-predicates.predicates c.as_slice-sizes.result.now c.as_slice-2.result.now = record {
      names = names;
      of_source = c.requires.rows;
      found = c.requires.found;
      declared = c.requires.events;
      predicates = subst (λ (f : ℕ → counts.Measure). AreWeightsOf f (net_of_source (source_for l)) c.in_ok-predicates.predicates) same c.in_ok-predicates.ensures;
      weighed = c.as_slice-sizes.ensures ∙ c.in_ok-measures.ensures ∙ ap (λ (f : ℕ → counts.Measure). predicate_weights c.in_ok-predicates.predicates ++ rows_weights f l 0 (map row_tree c.args.rows.now)) same;
      kept = c.requires.kept;
      measured = subst (λ ms. AreMeasured ms (net_of_source (source_for l))) (sym c.as_slice-2.ensures) (c.in_ok-own.ensures l c.in_ok-weights.ensures exact);
      ranked = c.exact_weights_give_a_rank.ensures l c.in_ok-weights.weights c.in_ok-weights.ensures exact;
      fits =
          source_fits l names c.requires.kinds c.requires.kept c.nets_of_sources_are_nets.ensures
          (c.counted_trees_have_small_parts.ensures l.spec.now c.requires.countable c.requires.small) (c.trees_have_small_arguments.ensures l.spec.now c.requires.small);
    } in
    let told : due (source_for l) c.in_err-check_sizes.field-0.0 =
    size_due l (map row_tree c.args.rows.now) c.args.alphabets.now (map event_tree c.args.events.now) c.in_ok-predicates.predicates c.as_slice-sizes.result.now c.as_slice-2.result.now outlined
    c.outlines_have_the_nodes_of_their_net.ensures c.in_err-check_sizes.field-0.0 c.in_err-check_sizes.ensures.told in
    search rules
