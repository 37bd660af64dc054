use Rattle.std.proofs.Common.{◌≡◌, map, drop}
use Rattle.cif_net_expr.specs.View.{view}
use Rattle.cif_alg_measure.specs.Meanings.{ranges_of}
use Rattle.cif_alg_measure.specs.Widths.{checked_exprs}
use Rattle.cif_alg_measure.proofs.widths.check_exprs.Given as goal

abbrev pub invariant-loop-expr : goal.invariant-loop-expr
invariant-loop-expr l = checked_exprs (ranges_of l.ranges) (map view (drop l.expr-index l.all)) ≡ checked_exprs (ranges_of l.ranges) (map view l.all)
