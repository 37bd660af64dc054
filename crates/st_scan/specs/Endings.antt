-- What stopped a scan, as an outcome (`stopped`). The rest helps the code: how an execution of statements ends, as the turns that are
-- left, why there are none, and a memory.
use Rattle.std.specs.Prelude.{ℕ, ◌≤◌, Option, Some, None}
use Rattle.st_ast.specs.Values.{Memory, overflow, zero_divide, subrange_left}
use Rattle.st_ast.specs.Exec.{Outcome, Ended, Faulted, OutOfTurns, Act}
use Rattle.st_scan.specs.declared.error.ScanErr.{ScanErr}
use Rattle.st_scan.specs.declared.error.ScanErr.TheVariants.{Overflow, ZeroDivide, SubrangeLeft, Budget}
use Rattle.st_scan.specs.declared.statements.Chosen.{Chosen}
use Rattle.st_scan.specs.declared.statements.Chosen.TheVariants as choice

abbrev pub stopped : ScanErr → Outcome
stopped Overflow = Faulted overflow
stopped ZeroDivide = Faulted zero_divide
stopped (SubrangeLeft k v) = Faulted (subrange_left k v)
stopped Budget = OutOfTurns

-- the turns that are left, if it ended
abbrev pub outcome_of : Option ℕ → ScanErr → Memory → Outcome
outcome_of (Some left) e m = Ended left m
outcome_of None e m = stopped e

-- what became of the branches of an IF; where none was taken, `last` is not done
abbrev pub chosen : Chosen → ScanErr → Memory → ℕ → Act → Outcome
chosen (choice.Branch left) e m n last = Ended left m
chosen choice.NoBranch e m n last = last n m
chosen choice.Stopped e m n last = stopped e

abbrev pub LeavesAtMost : ℕ → Chosen → Type 0
LeavesAtMost turns (choice.Branch left) = left ≤ turns
LeavesAtMost turns choice.NoBranch = Unit {0}
LeavesAtMost turns choice.Stopped = Unit {0}
