-- Helper of the code: what a check of a part tells, which is that the part breaks no check, or that the error is the
-- first of those that it breaks.
use Rattle.std.specs.Prelude.{◌≡◌, ℕ, List, [], Result, Ok, Err}
use Rattle.st_ast.specs.Checks.{CheckFault}
use Rattle.st_check.specs.declared.error.StCheckErr.{StCheckErr}
use Rattle.st_check.specs.Told.{IsFirst}

abbrev pub Tells : {A : Type 0} → Result A StCheckErr → List CheckFault → Type 0
Tells (Ok a) faults = faults ≡ []
Tells (Err e) faults = IsFirst e faults

-- the same of statements, where the answer is the number of the next statement
abbrev pub Counts : Result ℕ StCheckErr → ℕ → List CheckFault → Type 0
Counts (Ok k) next faults = (k ≡ next) × (faults ≡ [])
Counts (Err e) next faults = IsFirst e faults
