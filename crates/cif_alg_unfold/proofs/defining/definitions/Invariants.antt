use Rattle.std.proofs.Common.{◌≡◌, length, map, drop}
use Rattle.cif_net.specs.View.{alg_tree}
use Rattle.cif_net_expr.specs.View.{view}
use Rattle.cif_alg_order.specs.Filled.{filled_from}
use Rattle.cif_alg_unfold.specs.Tables.{nothing}
use Rattle.cif_alg_unfold.specs.Defined.{definition_by, definitions}
use Rattle.cif_alg_unfold.proofs.defining.definitions.Given as goal

abbrev pub invariant-loop-number : goal.invariant-loop-number
invariant-loop-number l = record {
  as_long : length l.by ≡ length l.algs;
  filled : filled_from nothing definition_by (map alg_tree l.algs) (drop l.number-index l.order) (map view l.by) ≡ definitions (map alg_tree l.algs) l.order;
}
