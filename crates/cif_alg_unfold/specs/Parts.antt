-- The parts of a net in which algebraic variables are replaced.
use Rattle.std.specs.Prelude.{ℕ, map}
use Rattle.cif_net_expr.specs.Tree.{NetExpr}
use Rattle.cif_net_model.specs.Net.{AlgValue, one_value, by_loc, NetExclusion, NetInvariant}
use Rattle.cif_net_model.specs.Inline.{replaced}

abbrev pub value_replaced : (ℕ → NetExpr) → AlgValue → AlgValue
value_replaced by v = elim v [ one_value e ↦ one_value (replaced by e) | by_loc k es ↦ by_loc k (map (replaced by) es) ]

abbrev pub exclusion_replaced : (ℕ → NetExpr) → NetExclusion → NetExclusion
exclusion_replaced by x = record x { pred = replaced by x.pred }

abbrev pub invariant_replaced : (ℕ → NetExpr) → NetInvariant → NetInvariant
invariant_replaced by i = record i { pred = replaced by i.pred }
