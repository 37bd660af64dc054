-- Helper of the code: what an evaluated value tells, where its fault stands beside it.
use Rattle.std.specs.Prelude.{ℤ, Bool, Option, Some, None, Result, Ok, Err}
use Rattle.st_ast.specs.Values.{Fault, overflow, zero_divide}
use Rattle.st_scan.specs.declared.values.ValueFault.{ValueFault}
use Rattle.st_scan.specs.declared.values.ValueFault.TheVariants.{Overflow, ZeroDivide}

abbrev pub fault_of : ValueFault → Fault
fault_of Overflow = overflow
fault_of ZeroDivide = zero_divide

abbrev pub told : Option ℤ → ValueFault → Result ℤ Fault
told (Some v) e = Ok v
told None e = Err (fault_of e)

-- a number, or an overflow where there is none
abbrev pub or_overflow : Option ℤ → Result ℤ Fault
or_overflow (Some x) = Ok x
or_overflow None = Err overflow

abbrev pub told_truth : Option Bool → ValueFault → Result Bool Fault
told_truth (Some b) e = Ok b
told_truth None e = Err (fault_of e)
