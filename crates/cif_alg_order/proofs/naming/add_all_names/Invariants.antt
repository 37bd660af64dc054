use Rattle.std.proofs.Common.{◌≡◌, ◌++◌, map, drop}
use Rattle.std.specs.Prelude.{flat_map}
use Rattle.cif_net_expr.specs.View.{view}
use Rattle.cif_alg_order.specs.Names.{algs_in}
use Rattle.cif_alg_order.proofs.naming.add_all_names.Given as goal

abbrev pub invariant-loop-expr : goal.invariant-loop-expr
invariant-loop-expr l = l.found ++ flat_map algs_in (map view (drop l.expr-index l.all)) ≡ l.fn.found ++ flat_map algs_in (map view l.all)
