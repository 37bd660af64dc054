use Rattle.std.proofs.Common.{◌≡◌, map, drop}
use Rattle.cif_net.specs.View.{alg_tree}
use Rattle.cif_alg_measure.specs.Meanings.{ranges_of}
use Rattle.cif_alg_measure.specs.Widths.{checked_algs}
use Rattle.cif_alg_measure.proofs.widths.check_algs.Given as goal

abbrev pub invariant-loop-alg : goal.invariant-loop-alg
invariant-loop-alg l = checked_algs (ranges_of l.ranges) (map alg_tree (drop l.alg-index l.all)) ≡ checked_algs (ranges_of l.ranges) (map alg_tree l.all)
