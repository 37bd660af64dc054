use Rattle.std.proofs.Common.{◌≡◌, ◌++◌, drop}
use Rattle.st_ast.specs.Interface.{numbers_of}
use Rattle.st_check.specs.Rows.{is_in}
use Rattle.st_check.proofs.rows.numbers.Given as goal

abbrev pub invariant-loop-i : goal.invariant-loop-i
invariant-loop-i l = l.numbers.items ++ numbers_of (is_in l.row) l.i (drop l.i l.vars) ≡ numbers_of (is_in l.row) 0 l.vars
