use Rattle.std.proofs.Common.{◌≡◌, map, drop}
use Rattle.cif_net.specs.View.{invariant_tree}
use Rattle.cif_alg_measure.specs.Meanings.{stopped_table}
use Rattle.cif_alg_measure.specs.Sizes.{invariants_counted}
use Rattle.cif_alg_measure.proofs.sizes.invariants_measure.Given as goal

abbrev pub invariant-loop-invariant : goal.invariant-loop-invariant
invariant-loop-invariant l = invariants_counted (stopped_table l.algs) l.found (map invariant_tree (drop l.invariant-index l.all)) ≡ invariants_counted (stopped_table l.algs) l.fn.before (map invariant_tree l.all)
