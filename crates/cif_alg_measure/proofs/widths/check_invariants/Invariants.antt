use Rattle.std.proofs.Common.{◌≡◌, map, drop}
use Rattle.cif_net.specs.View.{invariant_tree}
use Rattle.cif_alg_measure.specs.Meanings.{ranges_of}
use Rattle.cif_alg_measure.specs.Widths.{checked_invariants}
use Rattle.cif_alg_measure.proofs.widths.check_invariants.Given as goal

abbrev pub invariant-loop-invariant : goal.invariant-loop-invariant
invariant-loop-invariant l = checked_invariants (ranges_of l.ranges) (map invariant_tree (drop l.invariant-index l.all)) ≡ checked_invariants (ranges_of l.ranges) (map invariant_tree l.all)
