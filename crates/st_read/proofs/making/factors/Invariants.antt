use Rattle.std.proofs.Common.{◌≡◌, map}
use Rattle.st_ast.specs.View.{view_factor}
use Rattle.st_read.specs.Operands.{factor_of}
use Rattle.st_read.proofs.making.factors.Given as goal

abbrev pub invariant-loop-other : goal.invariant-loop-other
invariant-loop-other l = map view_factor l.all.items ≡ map factor_of l.yielded
