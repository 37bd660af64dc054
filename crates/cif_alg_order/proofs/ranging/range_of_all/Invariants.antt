use Rattle.std.proofs.Common.{◌≡◌, map, drop, None}
use Rattle.cif_net_expr.specs.View.{view}
use Rattle.cif_net_model.specs.Interval.{range_of}
use Rattle.cif_alg_measure.specs.Meanings.{ranges_of}
use Rattle.cif_alg_order.specs.Ranged.{joined_all}
use Rattle.cif_alg_order.proofs.ranging.range_of_all.Given as goal

abbrev pub invariant-loop-expr : goal.invariant-loop-expr
invariant-loop-expr l = joined_all l.found (map (range_of (ranges_of l.ranges)) (map view (drop l.expr-index l.all))) ≡ joined_all None (map (range_of (ranges_of l.ranges)) (map view l.all))
