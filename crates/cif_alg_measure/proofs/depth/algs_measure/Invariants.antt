use Rattle.std.proofs.Common.{◌≡◌, map, drop}
use Rattle.cif_net.specs.View.{alg_tree}
use Rattle.cif_alg_measure.specs.Meanings.{stopped_table}
use Rattle.cif_alg_measure.specs.Sizes.{algs_counted}
use Rattle.cif_alg_measure.proofs.depth.algs_measure.Given as goal

abbrev pub invariant-loop-alg : goal.invariant-loop-alg
invariant-loop-alg l = algs_counted (stopped_table l.algs) l.found (map alg_tree (drop l.alg-index l.all)) ≡ algs_counted (stopped_table l.algs) l.fn.before (map alg_tree l.all)
