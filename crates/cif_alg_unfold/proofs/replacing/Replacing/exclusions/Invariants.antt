use Rattle.std.proofs.Common.{◌≡◌, map, take}
use Rattle.cif_net.specs.View.{exclusion_tree}
use Rattle.cif_alg_unfold.specs.Parts.{exclusion_replaced}
use Rattle.cif_alg_unfold.specs.Tables.{by_table}
use Rattle.cif_alg_unfold.proofs.replacing.Replacing.exclusions.Given as goal

abbrev pub invariant-loop-exclusion : goal.invariant-loop-exclusion
invariant-loop-exclusion l = map exclusion_tree l.all ≡ map (exclusion_replaced (by_table l.self.by.now)) (map exclusion_tree (take l.exclusion-index l.exclusions))
