-- The variables that statuses tell of.
use Rattle.std.specs.Prelude.{ℕ, Option, Some, None}
use Rattle.st_check.specs.declared.error.StCheckErr.{StCheckErr}
use Rattle.st_check.specs.declared.error.StCheckErr.TheVariants as check
use Rattle.st_scan.specs.declared.error.ScanErr.{ScanErr}
use Rattle.st_scan.specs.declared.error.ScanErr.TheVariants as scan
use Rattle.cif_run.specs.declared.status.Status.{Status}
use Rattle.cif_run.specs.declared.status.Status.TheVariants as status
use Rattle.cif_run.specs.declared.status.StRefusal.{StRefusal}
use Rattle.cif_run.specs.declared.status.StRefusal.TheVariants as st

abbrev pub variable_of_check : StCheckErr → Option ℕ
variable_of_check (check.StUnknown k) = None
variable_of_check (check.StDuplicate k) = Some k
variable_of_check (check.StMismatch k) = None
variable_of_check (check.StNotAssignable k) = None
variable_of_check (check.StInitRange k) = Some k
variable_of_check check.Memory = None

abbrev pub variable_of_scan : ScanErr → Option ℕ
variable_of_scan scan.Overflow = None
variable_of_scan scan.ZeroDivide = None
variable_of_scan (scan.SubrangeLeft k z) = Some k
variable_of_scan scan.Budget = None

abbrev pub variable_of_refusal : StRefusal → Option ℕ
variable_of_refusal (st.Text e) = None
variable_of_refusal (st.Check e) = variable_of_check e

-- the number of the variable that a status tells of, if it tells of one
abbrev pub variable_of : Status → Option ℕ
variable_of (status.StRefused why) = variable_of_refusal why
variable_of (status.ScanFault k e) = variable_of_scan e
variable_of _ = None
