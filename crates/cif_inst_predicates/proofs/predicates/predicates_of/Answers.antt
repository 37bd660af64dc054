use Rattle.std.proofs.Common.{map, sym, ◌∙◌, ap, subst}
use Rattle.std.specs.Prelude.{flat_map}
use Rattle.cif_inst_paths.specs.Views.{row_tree}
use Rattle.cif_inst_predicates.specs.Predicates.{stated_exclusions, stated_invariants}
use Rattle.cif_inst_predicates.specs.Stated.{StandBelow}
use Rattle.cif_inst_predicates.specs.Views.{stated_tree}
use Rattle.cif_inst_predicates.proofs.StatedLaws.{stand_below}
use Rattle.cif_inst_predicates.proofs.PredicateLaws.{exclusions_are, invariants_are}
use Rattle.cif_inst_predicates.proofs.predicates.predicates_of.Goals as goal

pub all_exclusions-requires-clause-below : goal.all_exclusions-requires-clause-below
all_exclusions-requires-clause-below c =
    subst (StandBelow c.args.looking.now) (sym (ap (map stated_tree) c.as_slice.ensures.value ∙ c.in_ok-found.ensures))
    (stand_below c.args.looking.now (map row_tree c.args.rows.now) c.requires.rows)

pub all_invariants-requires-clause-below : goal.all_invariants-requires-clause-below
all_invariants-requires-clause-below c =
    subst (StandBelow c.args.looking.now) (sym (ap (map stated_tree) c.as_slice-2.ensures.value ∙ c.in_ok-found.ensures))
    (stand_below c.args.looking.now (map row_tree c.args.rows.now) c.requires.rows)

pub returns-clause-exclusions : goal.returns-clause-exclusions
returns-clause-exclusions c =
    c.in_ok-all_exclusions.ensures
    ∙ ap (flat_map (stated_exclusions c.args.looking.now)) (ap (map stated_tree) c.as_slice.ensures.value ∙ c.in_ok-found.ensures)
    ∙ exclusions_are c.args.looking.now c.requires.names (map row_tree c.args.rows.now) c.requires.rows

pub returns-clause-invariants : goal.returns-clause-invariants
returns-clause-invariants c =
    c.in_ok-all_invariants.ensures
    ∙ ap (flat_map (stated_invariants c.args.looking.now)) (ap (map stated_tree) c.as_slice-2.ensures.value ∙ c.in_ok-found.ensures)
    ∙ invariants_are c.args.looking.now c.requires.names (map row_tree c.args.rows.now) c.requires.rows
