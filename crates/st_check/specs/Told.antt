-- What is told of a program and of its names.
use Rattle.std.specs.Prelude.{◌≡◌, ℕ, ◌<◌, List, [], ◌∷◌, length, Option, Some, None}
use Rattle.grammar.specs.Pieces.{Text}
use Rattle.st_ast.specs.Checks.{CheckFault, unknown, duplicate, mismatch, not_assignable, init_range}
use Rattle.st_ast.specs.Names.{place_of}
use Rattle.st_ast.specs.declared.tree.StVar.{StVar}
use Rattle.st_check.specs.declared.error.StCheckErr.{StCheckErr}
use Rattle.st_check.specs.declared.error.StCheckErr.TheVariants as err

abbrev pub first : List CheckFault → Option CheckFault
first [] = None
first (f ∷ fs) = Some f

-- the error is the first of the broken checks, or want of memory
abbrev pub IsFirst : StCheckErr → List CheckFault → Type 0
IsFirst (err.StUnknown k) faults = first faults ≡ Some (unknown k)
IsFirst (err.StDuplicate k) faults = first faults ≡ Some (duplicate k)
IsFirst (err.StMismatch k) faults = first faults ≡ Some (mismatch k)
IsFirst (err.StNotAssignable k) faults = first faults ≡ Some (not_assignable k)
IsFirst (err.StInitRange k) faults = first faults ≡ Some (init_range k)
IsFirst err.Memory faults = Unit {0}

-- the number of the variable with a name, or none where no variable has it
abbrev pub IsPlace : List StVar → Text → Option ℕ → Type 0
IsPlace vars name None = place_of vars name ≡ length vars
IsPlace vars name (Some k) = (place_of vars name ≡ k) × (k < length vars)
