-- Helper of the code: what matters of an expression that is negated.
use Rattle.st_ast.specs.Tree.{Expr, truth, named}
use Rattle.plc_expr_walk.specs.declared.negating.Leaf.{Leaf}
use Rattle.plc_expr_walk.specs.declared.negating.Leaf.TheVariants as leaf

abbrev pub leaf_of : Expr → Leaf
leaf_of (truth b) = leaf.Truth b
leaf_of (named x) = leaf.Name
leaf_of _ = leaf.Other
