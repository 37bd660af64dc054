-- Helper of the code: an operand after an operator, as data.
use Rattle.std.specs.Prelude.{Bool}
use Rattle.st_ast.specs.Tree.{Expr}
use Rattle.st_ast.specs.View.{view_expr}
use Rattle.st_ast.specs.Grammar.{mul_of, is_minus}
use Rattle.st_ast.specs.declared.kinds.TokenKind.{TokenKind}
use Rattle.st_ast.specs.declared.tree.StMul.{StMul}
use Rattle.st_read.specs.declared.making.Operand.{Operand}

abbrev pub operand_view : Operand → TokenKind × Expr
operand_view o = (o.kind, view_expr o.value)

abbrev pub factor_of : Operand → StMul × Expr
factor_of o = (mul_of o.kind, view_expr o.value)

abbrev pub term_of : Operand → Bool × Expr
term_of o = (is_minus o.kind, view_expr o.value)

abbrev pub value_of : Operand → Expr
value_of o = view_expr o.value
