use Rattle.std.proofs.Common.{map, sym, ◌∙◌, ap, subst}
use Rattle.std.specs.Prelude.{flat_map}
use Rattle.cif_inst_paths.specs.Views.{row_tree}
use Rattle.cif_inst_sizes.specs.Weights.{alg_by}
use Rattle.cif_inst_predicates.specs.Predicates.{stated_exclusions, stated_invariants}
use Rattle.cif_inst_predicates.specs.Stated.{StandBelow}
use Rattle.cif_inst_predicates.specs.Views.{stated_tree}
use Rattle.cif_inst_predicates.specs.Weights.{excluded_of, invariant_weight}
use Rattle.cif_inst_predicates.proofs.StatedLaws.{stand_below}
use Rattle.cif_inst_predicates.proofs.PredicateLaws.{exclusions_are, invariants_are}
use Rattle.cif_inst_predicates.proofs.weights.predicate_weights.Goals as goal

pub all_exclusions-requires-clause-below : goal.all_exclusions-requires-clause-below
all_exclusions-requires-clause-below c =
    subst (StandBelow c.args.looking.now) (sym (ap (map stated_tree) c.as_slice.ensures.value ∙ c.in_ok-found.ensures))
    (stand_below c.args.looking.now (map row_tree c.args.rows.now) c.requires.rows)

pub returns : goal.returns
returns c =
    let alg = alg_by c.args.looking.now c.args.weights.now in
    record {
      exclusions =
          c.in_ok-all_exclusions.ensures
          ∙ ap (λ ss. map (excluded_of alg) (flat_map (stated_exclusions c.args.looking.now) ss)) (ap (map stated_tree) c.as_slice.ensures.value ∙ c.in_ok-found.ensures)
          ∙ ap (map (excluded_of alg)) (exclusions_are c.args.looking.now c.requires.names (map row_tree c.args.rows.now) c.requires.rows);
      invariants =
          c.in_ok-all_invariants.ensures
          ∙ ap (λ ss. map (invariant_weight alg) (flat_map (stated_invariants c.args.looking.now) ss)) (ap (map stated_tree) c.as_slice-2.ensures.value ∙ c.in_ok-found.ensures)
          ∙ ap (map (invariant_weight alg)) (invariants_are c.args.looking.now c.requires.names (map row_tree c.args.rows.now) c.requires.rows);
    }
