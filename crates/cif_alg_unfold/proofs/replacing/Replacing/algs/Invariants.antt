use Rattle.std.proofs.Common.{◌≡◌, map}
use Rattle.cif_net.specs.View.{alg_tree}
use Rattle.cif_net_model.specs.Inline.{alg_replaced}
use Rattle.cif_alg_unfold.specs.Tables.{by_table}
use Rattle.cif_alg_unfold.proofs.replacing.Replacing.algs.Given as goal

abbrev pub invariant-loop-alg : goal.invariant-loop-alg
invariant-loop-alg l = map alg_tree l.all ≡ map (alg_replaced (by_table l.self.by.now)) (map alg_tree l.yielded)
