use Rattle.std.proofs.Common.{◌≡◌, map, drop}
use Rattle.cif_net.specs.View.{exclusion_tree}
use Rattle.cif_alg_measure.specs.Meanings.{ranges_of}
use Rattle.cif_alg_measure.specs.Widths.{checked_exclusions}
use Rattle.cif_alg_measure.proofs.widths.check_exclusions.Given as goal

abbrev pub invariant-loop-exclusion : goal.invariant-loop-exclusion
invariant-loop-exclusion l = checked_exclusions (ranges_of l.ranges) (map exclusion_tree (drop l.exclusion-index l.all)) ≡ checked_exclusions (ranges_of l.ranges) (map exclusion_tree l.all)
