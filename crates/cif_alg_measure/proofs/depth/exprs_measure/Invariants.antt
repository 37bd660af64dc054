use Rattle.std.proofs.Common.{◌≡◌, map, drop}
use Rattle.cif_net_expr.specs.View.{view}
use Rattle.cif_alg_measure.specs.Meanings.{stopped_table}
use Rattle.cif_alg_measure.specs.Sizes.{exprs_counted}
use Rattle.cif_alg_measure.proofs.depth.exprs_measure.Given as goal

abbrev pub invariant-loop-expr : goal.invariant-loop-expr
invariant-loop-expr l = exprs_counted (stopped_table l.algs) l.found (map view (drop l.expr-index l.all)) ≡ exprs_counted (stopped_table l.algs) l.fn.before (map view l.all)
