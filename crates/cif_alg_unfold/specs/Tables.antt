-- The expressions that algebraic variables are replaced by.
use Rattle.std.specs.Prelude.{ℕ, pos, List, map}
use Rattle.cif_net_expr.specs.Tree.{NetExpr, net_expr, n_number}
use Rattle.cif_net_expr.specs.View.{view}
use Rattle.cif_net_expr.specs.declared.expressions.NetExpr as declared
use Rattle.cif_net_model.specs.Unfolding.{at_or}

abbrev pub nothing : NetExpr
nothing = net_expr (n_number (pos 0)) 0

-- by number, and past the end 0
abbrev pub by_table : List declared.NetExpr → ℕ → NetExpr
by_table es k = at_or nothing (map view es) k
