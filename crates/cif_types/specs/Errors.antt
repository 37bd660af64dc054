-- Helper of the code: the errors of the checks that a source's kinds stand on, as those of its kinds.
use Rattle.cif_types.specs.declared.error.TypeErr.{TypeErr}
use Rattle.cif_types.specs.declared.error.TypeErr.TheVariants as type
use Rattle.cif_types_kinds.specs.declared.error.KindErr.{KindErr}
use Rattle.cif_types_kinds.specs.declared.error.KindErr.TheVariants as kind
use Rattle.cif_types_constancy.specs.declared.error.ConstancyErr.{ConstancyErr}
use Rattle.cif_types_constancy.specs.declared.error.ConstancyErr.TheVariants as constancy
use Rattle.cif_types_targets.specs.declared.error.TargetErr.{TargetErr}
use Rattle.cif_types_targets.specs.declared.error.TargetErr.TheVariants as target
use Rattle.cif_types_equations.specs.declared.error.EquationErr.{EquationErr}
use Rattle.cif_types_equations.specs.declared.error.EquationErr.TheVariants as equation

abbrev pub kind_error : KindErr → TypeErr
kind_error (kind.Mismatch at) = type.Mismatch at
kind_error kind.Memory = type.Memory

abbrev pub constancy_error : ConstancyErr → TypeErr
constancy_error (constancy.NotConstant at) = type.NotConstant at
constancy_error constancy.Memory = type.Memory

abbrev pub target_error : TargetErr → TypeErr
target_error (target.NotOwn at) = type.NotOwn at
target_error (target.AssignedTwice at) = type.AssignedTwice at
target_error target.Memory = type.Memory

abbrev pub equation_error : EquationErr → TypeErr
equation_error (equation.Equations at count) = type.Equations at count
equation_error equation.Memory = type.Memory
