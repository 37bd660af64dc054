use Rattle.std.proofs.Common.{List, map, ◌∙◌, ap}
use Rattle.cif_net.specs.View.{event_tree}
use Rattle.cif_net.specs.declared.events.Event.{Event}
use Rattle.cif_inst_paths.specs.Views.{row_tree}
use Rattle.cif_inst_paths.specs.declared.rows.Row.{Row}
use Rattle.cif_inst.proofs.NetLaws.{IsMade, matched_names, fits_with, represents_with}
use Rattle.cif_inst.proofs.instantiating.made_net.Goals as goal

pub all_events-requires-clause-rows : goal.all_events-requires-clause-rows
all_events-requires-clause-rows c = ap (λ (rs : List Row). map row_tree rs) c.as_slice-rows.ensures.value ∙ c.in_ok-components.ensures

pub predicates_of-requires-clause-names : goal.predicates_of-requires-clause-names
predicates_of-requires-clause-names c = matched_names c.args.typing.now.looking.now c.requires.types.names c.requires.kinds

pub predicates_of-requires-clause-rows : goal.predicates_of-requires-clause-rows
predicates_of-requires-clause-rows c = ap (λ (rs : List Row). map row_tree rs) c.as_slice-rows.ensures.value ∙ c.in_ok-components.ensures

pub checked_alphabets-requires-clause-rows : goal.checked_alphabets-requires-clause-rows
checked_alphabets-requires-clause-rows c = ap (λ (rs : List Row). map row_tree rs) c.as_slice-rows.ensures.value ∙ c.in_ok-components.ensures

pub checked_alphabets-requires-clause-events : goal.checked_alphabets-requires-clause-events
checked_alphabets-requires-clause-events c = ap (λ (es : List Event). map event_tree es) c.as_slice.ensures ∙ c.in_ok-events.ensures

pub all_autos-requires-clause-names : goal.all_autos-requires-clause-names
all_autos-requires-clause-names c = matched_names c.args.typing.now.looking.now c.requires.types.names c.requires.kinds

pub all_autos-requires-clause-rows : goal.all_autos-requires-clause-rows
all_autos-requires-clause-rows c = ap (λ (rs : List Row). map row_tree rs) c.as_slice-rows.ensures.value ∙ c.in_ok-components.ensures

pub all_autos-requires-clause-alphabets : goal.all_autos-requires-clause-alphabets
all_autos-requires-clause-alphabets c = c.as_slice-2.ensures ∙ c.in_ok-alphabets.ensures.found

pub objects_of-requires-clause-rows : goal.objects_of-requires-clause-rows
objects_of-requires-clause-rows c = ap (λ (rs : List Row). map row_tree rs) c.as_slice-rows.ensures.value ∙ c.in_ok-components.ensures

pub invariant_of-result : goal.invariant_of-result
invariant_of-result c =
    let made : IsMade c.args.typing.now.looking.now (map row_tree c.as_slice-rows.result.now) c.in_ok-autos.autos c.in_ok-events.events c.in_ok-objects.objects.inputs c.in_ok-objects.objects.vars c.in_ok-objects.objects.algs c.in_ok-predicates.predicates.exclusions c.in_ok-predicates.predicates.invariants = record {
      names = matched_names c.args.typing.now.looking.now c.requires.types.names c.requires.kinds;
      kinds = c.requires.kinds;
      kept = c.in_ok-alphabets.ensures.none;
      of_source = ap (λ (rs : List Row). map row_tree rs) c.as_slice-rows.ensures.value ∙ c.in_ok-components.ensures;
      made = c.in_ok-autos.ensures;
      declared = c.in_ok-events.ensures;
      read = c.in_ok-objects.ensures.inputs;
      stored = c.in_ok-objects.ensures.variables;
      defined = c.in_ok-objects.ensures.algebraic;
      excluded = c.in_ok-predicates.ensures.exclusions;
      kept_always = c.in_ok-predicates.ensures.invariants;
    } in
    record {
      fits = fits_with c.args.typing.now.looking.now (map row_tree c.as_slice-rows.result.now) c.in_ok-autos.autos c.in_ok-events.events c.in_ok-objects.objects.inputs c.in_ok-objects.objects.vars c.in_ok-objects.objects.algs c.in_ok-predicates.predicates.exclusions c.in_ok-predicates.predicates.invariants made
          c.nets_of_sources_are_nets.ensures
          (c.counted_trees_have_small_parts.ensures c.args.typing.now.looking.now.spec.now c.requires.countable c.requires.small) (c.trees_have_small_arguments.ensures c.args.typing.now.looking.now.spec.now c.requires.small);
    }

pub returns-clause-represents : goal.returns-clause-represents
returns-clause-represents c =
    let made : IsMade c.args.typing.now.looking.now (map row_tree c.as_slice-rows.result.now) c.in_ok-autos.autos c.in_ok-events.events c.in_ok-objects.objects.inputs c.in_ok-objects.objects.vars c.in_ok-objects.objects.algs c.in_ok-predicates.predicates.exclusions c.in_ok-predicates.predicates.invariants = record {
      names = matched_names c.args.typing.now.looking.now c.requires.types.names c.requires.kinds;
      kinds = c.requires.kinds;
      kept = c.in_ok-alphabets.ensures.none;
      of_source = ap (λ (rs : List Row). map row_tree rs) c.as_slice-rows.ensures.value ∙ c.in_ok-components.ensures;
      made = c.in_ok-autos.ensures;
      declared = c.in_ok-events.ensures;
      read = c.in_ok-objects.ensures.inputs;
      stored = c.in_ok-objects.ensures.variables;
      defined = c.in_ok-objects.ensures.algebraic;
      excluded = c.in_ok-predicates.ensures.exclusions;
      kept_always = c.in_ok-predicates.ensures.invariants;
    } in
    represents_with c.args.typing.now.looking.now (map row_tree c.as_slice-rows.result.now) c.in_ok-autos.autos c.in_ok-events.events c.in_ok-objects.objects.inputs c.in_ok-objects.objects.vars c.in_ok-objects.objects.algs c.in_ok-predicates.predicates.exclusions c.in_ok-predicates.predicates.invariants made
    c.nets_represent_their_sources.ensures
