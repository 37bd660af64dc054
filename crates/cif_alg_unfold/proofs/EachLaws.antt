-- Expressions in a list, of which each is replaced.
use Rattle.std.proofs.Common.{◌≡◌, ℕ, List, [], ◌∷◌, map, refl, sym, ap, ◌∙◌}
use Rattle.cif_net_expr.specs.Tree.{NetExpr, NetExprs, no_net_exprs, net_exprs}
use Rattle.cif_net_expr.specs.View.{view, exprs_of, view_exprs}
use Rattle.cif_net_expr.specs.declared.expressions.NetExpr as declared
use Rattle.cif_net_model.specs.Inline.{replaced, list_replaced}

abbrev listed : NetExprs → List NetExpr
listed no_net_exprs = []
listed (net_exprs e es) = e ∷ listed es

listed-of : (es : List NetExpr) → listed (exprs_of es) ≡ es
listed-of [] = refl
listed-of (e ∷ es) = ap (λ xs. e ∷ xs) (listed-of es)

listed-replaced : (f : ℕ → NetExpr) (es : NetExprs) → listed (list_replaced f es) ≡ map (replaced f) (listed es)
listed-replaced f no_net_exprs = refl
listed-replaced f (net_exprs e es) = ap (λ xs. replaced f e ∷ xs) (listed-replaced f es)

pub each-replaced : (f : ℕ → NetExpr) (made all : List declared.NetExpr) → view_exprs made ≡ list_replaced f (view_exprs all) → map view made ≡ map (replaced f) (map view all)
each-replaced f made all h = sym (listed-of (map view made)) ∙ ap listed h ∙ listed-replaced f (view_exprs all) ∙ ap (map (replaced f)) (listed-of (map view all))
