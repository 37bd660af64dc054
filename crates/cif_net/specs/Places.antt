-- Helper of the code: values for the locations of an automaton, as branches.
use Rattle.std.specs.Prelude.{ℕ, suc, List, [], ◌∷◌}
use Rattle.cif_net_expr.specs.Tree.{NetExpr, net_expr, n_loc}
use Rattle.cif_net_model.specs.Exprs.{expr_at}

-- the place of the first, and 0 where there is none
abbrev pub first_at : List NetExpr → ℕ
first_at [] = 0
first_at (e ∷ es) = expr_at e

-- a value where the automaton is in that location
abbrev pub branch_by_place : (auto k : ℕ) → NetExpr → NetExpr × NetExpr
branch_by_place a k e = (net_expr (n_loc a k) (expr_at e), e)

-- a branch for each location from k on
abbrev pub branches_by_place : (auto k : ℕ) → List NetExpr → List (NetExpr × NetExpr)
branches_by_place a k [] = []
branches_by_place a k (e ∷ es) = branch_by_place a k e ∷ branches_by_place a (suc k) es
