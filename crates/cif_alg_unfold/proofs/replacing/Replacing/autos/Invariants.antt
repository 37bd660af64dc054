use Rattle.std.proofs.Common.{◌≡◌, map}
use Rattle.cif_net.specs.View.{auto_tree}
use Rattle.cif_net_model.specs.Inline.{auto_replaced}
use Rattle.cif_alg_unfold.specs.Tables.{by_table}
use Rattle.cif_alg_unfold.proofs.replacing.Replacing.autos.Given as goal

abbrev pub invariant-loop-auto : goal.invariant-loop-auto
invariant-loop-auto l = map auto_tree l.all ≡ map (auto_replaced (by_table l.self.by.now)) (map auto_tree l.yielded)
