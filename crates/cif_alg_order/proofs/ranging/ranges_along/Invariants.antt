use Rattle.std.proofs.Common.{◌≡◌, map, take}
use Rattle.cif_net.specs.View.{alg_tree}
use Rattle.cif_alg_order.specs.Filled.{filled}
use Rattle.cif_alg_order.specs.Ranged.{zero_bounds, stored_ranges, alg_bounds}
use Rattle.cif_alg_order.proofs.ranging.ranges_along.Given as goal

-- what was filled up to the number that comes next
abbrev pub invariant-loop-number : goal.invariant-loop-number
invariant-loop-number l = l.table ≡ filled zero_bounds (alg_bounds (stored_ranges l.declared)) (map alg_tree l.algs) (take l.number-index l.order)
