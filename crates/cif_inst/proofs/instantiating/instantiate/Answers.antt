use Rattle.std.proofs.Common.{rules, ◌≡◌, List, map, sym, subst}
use Rattle.std.specs.Global.{Vec}
use Rattle.cif_source.specs.Source.{source_of}
use Rattle.cif_inst_parameters.specs.declared.given.Given.{Given}
use Rattle.cif_inst_parameters.specs.Given.{given_items, AreParametersOf}
use Rattle.cif_inst_names.specs.Objects.{AreValuesOf}
use Rattle.cif_inst_names.specs.declared.objects.Value.{Value}
use Rattle.cif_inst.specs.Net.{due, of_components, of_constants}
use Rattle.cif_inst.specs.declared.error.InstErr.{InstErr}
use Rattle.cif_inst.proofs.NetLaws.{components_due, constants_due}
use Rattle.cif_inst.proofs.instantiating.instantiate.Goals as goal

pub returns-in_err-components-clause-refused : goal.returns-in_err-components-clause-refused
returns-in_err-components-clause-refused c =
    let told : (e : InstErr) → e ≡ of_components c.in_err-components.field-0.0 → due (source_of c.args.spec.now) e =
    λ e is. components_due (source_of c.args.spec.now) c.in_err-components.field-0.0 e is c.in_err-components.ensures.refused in
    search (rules, told)

pub returns-in_err-constants-clause-refused : goal.returns-in_err-constants-clause-refused
returns-in_err-constants-clause-refused c =
    let told : (e : InstErr) → e ≡ of_constants c.in_err-constants.field-0.0 → due (source_of c.args.spec.now) e =
    λ e is. constants_due (source_of c.args.spec.now) c.in_err-constants.field-0.0 e is c.in_err-constants.ensures.refused in
    search (rules, told)

pub check_constants-requires-clause-components : goal.check_constants-requires-clause-components
check_constants-requires-clause-components c = c.in_ok-components.ensures.numbers

pub check_constants-requires-clause-constancy : goal.check_constants-requires-clause-constancy
check_constants-requires-clause-constancy c = c.requires.kinds.rules.constant

pub number_objects-requires-clause-components : goal.number_objects-requires-clause-components
number_objects-requires-clause-components c = c.in_ok-components.ensures.numbers

pub values_of-requires-clause-components : goal.values_of-requires-clause-components
values_of-requires-clause-components c = c.in_ok-components.ensures.numbers

pub values_of-requires-clause-constancy : goal.values_of-requires-clause-constancy
values_of-requires-clause-constancy c = c.requires.kinds.rules.constant

pub values_of-requires-clause-values : goal.values_of-requires-clause-values
values_of-requires-clause-values c = c.in_ok-constants.ensures.values

pub values_of-requires-clause-ranged : goal.values_of-requires-clause-ranged
values_of-requires-clause-ranged c = c.in_ok-constants.ensures.none

pub parameters-requires-clause-components : goal.parameters-requires-clause-components
parameters-requires-clause-components c = c.in_ok-components.ensures.numbers

pub parameters-requires-clause-matched : goal.parameters-requires-clause-matched
parameters-requires-clause-matched c = c.requires.kinds.rules.mismatch

pub net_of-requires-clause-names : goal.net_of-requires-clause-names
net_of-requires-clause-names c = record {
  scopes = c.requires.scopes;
  components = c.in_ok-components.ensures.numbers;
  numbers = c.in_ok-numbers.ensures;
  values = subst (λ (x : List (List Value)). AreValuesOf (source_of c.args.spec.now) x) (sym c.as_slice.ensures) c.in_ok-values.ensures;
  given = subst (λ (x : List (Vec Given)). AreParametersOf (source_of c.args.spec.now) (map given_items x)) (sym c.as_slice-2.ensures.value) c.in_ok-given.ensures;
}

pub net_of-requires-clause-kinds : goal.net_of-requires-clause-kinds
net_of-requires-clause-kinds c = c.requires.kinds.rules

pub net_of-requires-clause-few : goal.net_of-requires-clause-few
net_of-requires-clause-few c = c.in_ok-components.ensures.few

pub net_of-requires-clause-values : goal.net_of-requires-clause-values
net_of-requires-clause-values c = c.in_ok-constants.ensures.values

pub net_of-requires-clause-ranges : goal.net_of-requires-clause-ranges
net_of-requires-clause-ranges c = c.in_ok-constants.ensures.none
