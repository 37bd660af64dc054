use Rattle.std.proofs.Common.{◌≡◌, [], take, drop}
use Rattle.st_ast.specs.Checks.{variables_faults}
use Rattle.st_check.specs.Keys.{keys_of}
use Rattle.st_check.proofs.variables.check_variables.Given as goal

abbrev pub invariant-loop-i : goal.invariant-loop-i
invariant-loop-i l = record {
  names : l.names ≡ keys_of (take l.i l.vars);
  faults : variables_faults (take l.i l.vars) l.i (drop l.i l.vars) ≡ variables_faults [] 0 l.vars;
}
