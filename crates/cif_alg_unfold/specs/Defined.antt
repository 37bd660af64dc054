-- Helper of the code: the expressions that replace the algebraic variables of a net, made one after another along an order of their needs.
use Rattle.std.specs.Prelude.{ℕ, List}
use Rattle.cif_net_expr.specs.Tree.{NetExpr}
use Rattle.cif_net_model.specs.Net.{NetAlg}
use Rattle.cif_net_model.specs.Inline.{alg_replaced, defined_by}
use Rattle.cif_alg_order.specs.Filled.{put, filled}
use Rattle.cif_alg_unfold.specs.Tables.{nothing}

-- the definition, in which each is replaced by what the table has
abbrev pub definition_by : (ℕ → NetExpr) → NetAlg → NetExpr
definition_by by a = defined_by (alg_replaced by a)

abbrev pub with_definition : List NetAlg → List NetExpr → (k : ℕ) → List NetExpr
with_definition ds by k = put nothing definition_by ds by k

abbrev pub definitions : List NetAlg → (order : List ℕ) → List NetExpr
definitions ds order = filled nothing definition_by ds order
