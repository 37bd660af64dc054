use Rattle.std.proofs.Common.{◌≡◌, ◌++◌, map, drop}
use Rattle.cif_net.specs.View.{alg_tree}
use Rattle.cif_alg_order.specs.Names.{algs_of}
use Rattle.cif_alg_order.proofs.naming.named_by_each.Given as goal

abbrev pub invariant-loop-alg : goal.invariant-loop-alg
invariant-loop-alg l = map algs_of (map alg_tree l.algs) ≡ l.all ++ map algs_of (map alg_tree (drop l.alg-index l.algs))
