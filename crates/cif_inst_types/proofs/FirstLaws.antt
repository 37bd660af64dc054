-- The first values of variables and inputs.
use Rattle.std.proofs.Common.{◌≡◌, ℕ, ℤ, sym, ap, ◌∙◌, Option, Some, None}
use Rattle.cif_ast.specs.Tree.{Tree}
use Rattle.cif_system.specs.Words.{Member}
use Rattle.cif_source.specs.Source.{TypeTree, Source}
use Rattle.cif_source.specs.Components.{Component}
use Rattle.cif_source.specs.Types.{range_of, nearest_zero, first_of_type}
use Rattle.cif_source.specs.Constants.{typed_constants}
use Rattle.cif_inst_constants.specs.Typed.{IsTyped}
use Rattle.cif_inst_constants.specs.Walked.{range_view}
use Rattle.cif_inst_constants.specs.declared.ranges.Types.{Types}
use Rattle.cif_inst_constants.specs.declared.ranges.ValueRange.{ValueRange}
use Rattle.cif_inst_types.specs.Leaves.{value_in}
use Rattle.cif_inst_types.specs.Types.{typed_value}
use Rattle.cif_inst_types.proofs.ConstantLaws.{IsAt, typed-constant, value-in}

module _ (t : Source) (x : Types) (turns : ℕ) (h : IsTyped t x turns) (k : ℕ) (c : Component) (at : IsAt t k c) (ty : TypeTree) (o : Option Tree) where
  pub first-told : (e : Tree) (z : ℤ) → o ≡ Some e → ((v : Tree) → o ≡ Some v → Member (typed_value ty v) (typed_constants c)) → z ≡ value_in x k e → z ≡ first_of_type c ty o
  first-told e z is listed told = told ∙ value-in t x turns h k c at e (typed-constant c (typed_value ty e) (listed e is)) ∙ sym (ap (first_of_type c ty) is)

  pub nearest-told : (r : ValueRange) (z : ℤ) → o ≡ None → range_view r ≡ range_of c ty → z ≡ nearest_zero (range_view r) → z ≡ first_of_type c ty o
  nearest-told r z none range told = told ∙ ap nearest_zero range ∙ sym (ap (first_of_type c ty) none)
