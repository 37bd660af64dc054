use Rattle.std.proofs.Common.{◌≡◌, map}
use Rattle.st_ast.specs.View.{view_expr}
use Rattle.plc_expr.specs.Texts.{all_said_or}
use Rattle.plc_expr.proofs.forms.said_alternatives.Given as goal

abbrev pub invariant-loop-part : goal.invariant-loop-part
invariant-loop-part l = map view_expr l.all ≡ all_said_or (map view_expr l.yielded)
