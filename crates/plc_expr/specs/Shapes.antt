-- Helper of the code: what matters of an expression where it becomes an operand.
use Rattle.std.specs.Prelude.{Bool, Option, Some, None}
use Rattle.st_ast.specs.Tree.{Expr, truth, number, named, paren, negation, complement, product, sum, order, equal, all_of, odd_of, any_of, absolute, least, greatest, selection}
use Rattle.plc_expr.specs.declared.shapes.Shape.{Shape}
use Rattle.plc_expr.specs.declared.shapes.Shape.TheVariants as shape

abbrev pub shape_of : Expr → Shape
shape_of (truth b) = shape.Truth b
shape_of (named x) = shape.Name
shape_of (number z) = shape.Factor
shape_of (paren e) = shape.Factor
shape_of (absolute e) = shape.Factor
shape_of (least a b) = shape.Factor
shape_of (greatest a b) = shape.Factor
shape_of (selection g a b) = shape.Factor
shape_of (product e fs) = shape.Product
shape_of (negation e) = shape.Number
shape_of (sum e ts) = shape.Number
shape_of (complement e) = shape.Test
shape_of (order a op b) = shape.Test
shape_of (equal a same b) = shape.Test
shape_of (all_of es) = shape.Joined
shape_of (odd_of es) = shape.Joined
shape_of (any_of es) = shape.Joined

-- the literal of truth that it is
abbrev pub literal_in : Expr → Option Bool
literal_in (truth b) = Some b
literal_in _ = None
