use Rattle.std.proofs.Common.{◌≡◌, map}
use Rattle.st_ast.specs.View.{view_expr}
use Rattle.plc_expr.specs.Texts.{operand}
use Rattle.plc_expr.proofs.forms.operands.Given as goal

abbrev pub invariant-loop-part : goal.invariant-loop-part
invariant-loop-part l = map view_expr l.all ≡ map operand (map view_expr l.yielded)
