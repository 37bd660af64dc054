-- Which specifications keep to the limits of depth: each expression, each update and the components are at most 100 deep.
use Rattle.std.specs.Prelude.{◌≤◌}
use Rattle.cif_ast.specs.Depth.{depth, update_depth, component_depth}
use Rattle.cif_ast.specs.Throughout.{Rule, HoldsInSpec}
use Rattle.cif_ast.specs.declared.components.Spec.{Spec}

abbrev pub shallow_parts : Rule
shallow_parts = record {
  of_name = λ n. Unit {0};
  of_number = λ z. Unit {0};
  of_conditions = λ cs. Unit {0};
  of_literals = λ ls. Unit {0};
  of_expression = λ e. depth e ≤ 100;
  of_update = λ u. update_depth u ≤ 100;
}

pub record IsShallow (spec : Spec) : Type 0 where
  pub forms : HoldsInSpec shallow_parts spec
  pub components : component_depth spec ≤ 100
