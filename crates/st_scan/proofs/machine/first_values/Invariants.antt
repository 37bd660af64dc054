use Rattle.std.proofs.Common.{◌≡◌, ◌++◌, map, drop}
use Rattle.st_ast.specs.Scan.{first_of}
use Rattle.st_scan.proofs.machine.first_values.Given as goal

abbrev pub invariant-loop-var : goal.invariant-loop-var
invariant-loop-var l = l.memory.items ++ map first_of (drop l.var-index l.vars) ≡ map first_of l.vars
