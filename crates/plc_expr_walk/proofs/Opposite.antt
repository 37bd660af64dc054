-- How an expression is negated follows from what leaf it is.
use Rattle.std.proofs.Common.{◌≡◌, not, refl}
use Rattle.st_ast.specs.Tree.{Expr, truth, named, paren, complement}
use Rattle.plc_expr.specs.Texts.{negated}
use Rattle.plc_expr_walk.specs.Leaves.{leaf_of}
use Rattle.plc_expr_walk.specs.declared.negating.Leaf.{Leaf}
use Rattle.plc_expr_walk.specs.declared.negating.Leaf.TheVariants as leaf

abbrev pub negated_of : Leaf → Expr → Expr
negated_of (leaf.Truth b) e = truth (not b)
negated_of leaf.Name e = complement e
negated_of leaf.Other e = complement (paren e)

pub negated_by : (e : Expr) → negated e ≡ negated_of (leaf_of e) e
negated_by (truth b) = refl
negated_by (named x) = refl
negated_by e = refl
