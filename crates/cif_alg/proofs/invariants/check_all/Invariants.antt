use Rattle.std.proofs.Common.{◌≡◌, map, drop}
use Rattle.cif_net.specs.View.{invariant_tree}
use Rattle.cif_alg.specs.Invariants.{all_checked, AreSafe}
use Rattle.cif_alg.proofs.invariants.check_all.Given as goal

abbrev pub invariant-loop-invariant : goal.invariant-loop-invariant
invariant-loop-invariant l =
    (all_checked l.first (map invariant_tree (drop l.invariant-index l.all)) ≡ all_checked l.first (map invariant_tree l.all))
    × AreSafe l.first (map invariant_tree (drop l.invariant-index l.all))
