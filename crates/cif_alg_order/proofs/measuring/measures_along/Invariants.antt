use Rattle.std.proofs.Common.{◌≡◌, map, drop}
use Rattle.cif_net.specs.View.{alg_tree}
use Rattle.cif_alg_order.specs.Filled.{filled_from, filled}
use Rattle.cif_alg_order.specs.Measured.{unmeasured, alg_measured}
use Rattle.cif_alg_order.proofs.measuring.measures_along.Given as goal

abbrev pub invariant-loop-number : goal.invariant-loop-number
invariant-loop-number l = filled_from unmeasured alg_measured (map alg_tree l.algs) (drop l.number-index l.order) l.table ≡ filled unmeasured alg_measured (map alg_tree l.algs) l.order
