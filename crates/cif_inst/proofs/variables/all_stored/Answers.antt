use Rattle.std.proofs.Common.{map, refl, sym, ◌∙◌, ap, subst}
use Rattle.cif_inst.specs.Declarations.{rows_data}
use Rattle.cif_inst.specs.Typing.{typed_source}
use Rattle.cif_inst.specs.Variables.{stored, StandAll}
use Rattle.cif_inst.specs.Views.{datum_tree}
use Rattle.cif_inst.specs.declared.declarations.Sort.TheVariants as sort
use Rattle.cif_inst.proofs.VariableLaws.{stand_all}
use Rattle.cif_inst.proofs.variables.all_stored.Goals as goal

pub all_inputs-requires : goal.all_inputs-requires
all_inputs-requires c =
    subst (StandAll c.args.typing.now) (sym (ap (map datum_tree) c.as_slice.ensures.value ∙ c.in_ok-inputs.ensures ∙ ap (rows_data sort.Input 0) c.requires.rows))
    (stand_all c.args.typing.now sort.Input c.requires.types refl)

pub all_variables-requires : goal.all_variables-requires
all_variables-requires c =
    subst (StandAll c.args.typing.now) (sym (ap (map datum_tree) c.as_slice-2.ensures.value ∙ c.in_ok-vars.ensures ∙ ap (rows_data sort.Discrete 0) c.requires.rows))
    (stand_all c.args.typing.now sort.Discrete c.requires.types refl)

pub returns-clause-inputs : goal.returns-clause-inputs
returns-clause-inputs c = c.in_ok-all_inputs.ensures ∙ ap (map (stored (typed_source c.args.typing.now))) (ap (map datum_tree) c.as_slice.ensures.value ∙ c.in_ok-inputs.ensures)

pub returns-clause-variables : goal.returns-clause-variables
returns-clause-variables c = c.in_ok-all_variables.ensures ∙ ap (map (stored (typed_source c.args.typing.now))) (ap (map datum_tree) c.as_slice-2.ensures.value ∙ c.in_ok-vars.ensures)
