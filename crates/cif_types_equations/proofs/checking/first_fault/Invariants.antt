use Rattle.std.proofs.Common.{◌≡◌, map, drop}
use Rattle.cif_scope.specs.Written.{body_of_written}
use Rattle.cif_types_equations.specs.Faults.{fault_in}
use Rattle.cif_types_equations.proofs.checking.first_fault.Given as goal

abbrev pub invariant-loop-one : goal.invariant-loop-one
invariant-loop-one l = fault_in (map body_of_written l.written) ≡ fault_in (map body_of_written (drop l.one-index l.written))
