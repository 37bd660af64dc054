-- What holds of each element of joined lists, and of lists of expressions in two forms.
use Rattle.std.proofs.Common.{List, [], ◌∷◌, ◌++◌}
use Rattle.std.specs.List.{AllByRecursion}
use Rattle.cif_ast.specs.declared.expressions.Expr.{Expr}
use Rattle.cif_ast.specs.View.{view, view_exprs}
use Rattle.cif_ast.specs.Throughout.{Rule, HoldsInTree, HoldsInTrees, HoldsInExpr, HoldsInWholes}

pub all-append : {X : Type 0} (P : X → Type 0) (xs ys : List X) → AllByRecursion P xs → AllByRecursion P ys → AllByRecursion P (xs ++ ys)
all-append P [] ys h k = k
all-append P (x ∷ xs) ys h k = (h.0, all-append P xs ys h.1 k)

pub holds_in_trees : (rule : Rule) (es : List Expr) → AllByRecursion (λ (e : Expr). HoldsInTree rule (view e)) es → HoldsInTrees rule (view_exprs es)
holds_in_trees rule [] h = tt
holds_in_trees rule (e ∷ es) h = (h.0, holds_in_trees rule es h.1)

pub holds_in_wholes : (rule : Rule) (es : List Expr) → AllByRecursion (HoldsInExpr rule) es → HoldsInWholes rule (view_exprs es)
holds_in_wholes rule [] h = tt
holds_in_wholes rule (e ∷ es) h = (h.0.0, h.0.1, holds_in_wholes rule es h.1)
