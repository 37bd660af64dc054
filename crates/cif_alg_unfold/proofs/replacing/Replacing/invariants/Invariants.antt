use Rattle.std.proofs.Common.{◌≡◌, map, take}
use Rattle.cif_net.specs.View.{invariant_tree}
use Rattle.cif_alg_unfold.specs.Parts.{invariant_replaced}
use Rattle.cif_alg_unfold.specs.Tables.{by_table}
use Rattle.cif_alg_unfold.proofs.replacing.Replacing.invariants.Given as goal

abbrev pub invariant-loop-invariant : goal.invariant-loop-invariant
invariant-loop-invariant l = map invariant_tree l.all ≡ map (invariant_replaced (by_table l.self.by.now)) (map invariant_tree (take l.invariant-index l.invariants))
