use Rattle.std.proofs.Common.{◌≡◌, map, drop}
use Rattle.cif_net_expr.specs.View.{view}
use Rattle.cif_net_model.specs.Counts.{no_form}
use Rattle.cif_alg_measure.specs.Meanings.{stopped_measure, table_measure}
use Rattle.cif_alg_order.specs.Measured.{exprs_measured}
use Rattle.cif_alg_order.proofs.measuring.measure_of_all.Given as goal

abbrev pub invariant-loop-expr : goal.invariant-loop-expr
invariant-loop-expr l = exprs_measured (table_measure l.algs) l.found (map view (drop l.expr-index l.all)) ≡ exprs_measured (table_measure l.algs) (stopped_measure no_form) (map view l.all)
