use Rattle.std.proofs.Common.{◌≡◌, map, drop}
use Rattle.cif_net.specs.View.{exclusion_tree}
use Rattle.cif_alg_measure.specs.Meanings.{stopped_table}
use Rattle.cif_alg_measure.specs.Sizes.{exclusions_counted}
use Rattle.cif_alg_measure.proofs.depth.exclusions_measure.Given as goal

abbrev pub invariant-loop-exclusion : goal.invariant-loop-exclusion
invariant-loop-exclusion l = exclusions_counted (stopped_table l.algs) l.found (map exclusion_tree (drop l.exclusion-index l.all)) ≡ exclusions_counted (stopped_table l.algs) l.fn.before (map exclusion_tree l.all)
