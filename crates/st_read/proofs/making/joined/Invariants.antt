use Rattle.std.proofs.Common.{◌≡◌, ◌∷◌, map}
use Rattle.st_ast.specs.View.{view_expr}
use Rattle.st_read.specs.Operands.{value_of}
use Rattle.st_read.proofs.making.joined.Given as goal

abbrev pub invariant-loop-other : goal.invariant-loop-other
invariant-loop-other l = map view_expr l.all.items ≡ view_expr l.fn.first ∷ map value_of l.yielded
