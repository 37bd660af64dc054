-- Several conditions as one have the place of the first.
use Rattle.std.proofs.Common.{◌≡◌, ℕ, ◌<◌, true, List, [], ◌∷◌, length, refl, arith}
use Rattle.cif_ast.specs.View.{view, view_exprs}
use Rattle.cif_ast.specs.declared.expressions.Expr.{Expr}
use Rattle.cif_ast.specs.declared.names.Name.{Name}
use Rattle.cif_net_expr.specs.Tree.{NetExpr, net_expr, NetExprs, net_exprs, n_truth, n_and}
use Rattle.cif_net_model.specs.Exprs.{expr_at}
use Rattle.cif_inst_model.specs.Translation.{net_with, net_exprs_of, conjunction}
use Rattle.cif_inst_names.specs.Places.{first_at}

joined : (e f : NetExpr) (fs : NetExprs) → conjunction (net_exprs e (net_exprs f fs)) ≡ net_expr (n_and (net_exprs e (net_exprs f fs))) (expr_at e)
joined (net_expr g at) f fs = refl

pub conjoined_all : (name : Name → ℕ → NetExpr) (conds : List Expr) → 1 < length conds
    → conjunction (net_exprs_of name (view_exprs conds)) ≡ net_expr (n_and (net_exprs_of name (view_exprs conds))) (first_at (net_exprs_of name (view_exprs conds)))
conjoined_all name [] h = absurd (omega (arith, h))
conjoined_all name (e ∷ []) h = absurd (omega (arith, h))
conjoined_all name (e ∷ f ∷ fs) h = joined (net_with name (view e)) (net_with name (view f)) (net_exprs_of name (view_exprs fs))

-- without conditions it is `true`
pub no_conditions : (name : Name → ℕ → NetExpr) (conds : List Expr) → length conds < 1 → net_expr (n_truth true) 0 ≡ conjunction (net_exprs_of name (view_exprs conds))
no_conditions name [] h = refl
no_conditions name (e ∷ es) h = absurd (omega (arith, h))
