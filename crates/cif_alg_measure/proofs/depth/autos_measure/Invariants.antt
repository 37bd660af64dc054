use Rattle.std.proofs.Common.{◌≡◌, map, drop}
use Rattle.cif_net.specs.View.{auto_tree}
use Rattle.cif_alg_measure.specs.Meanings.{stopped_table}
use Rattle.cif_alg_measure.specs.Sizes.{autos_counted}
use Rattle.cif_alg_measure.proofs.depth.autos_measure.Given as goal

abbrev pub invariant-loop-auto : goal.invariant-loop-auto
invariant-loop-auto l = autos_counted (stopped_table l.algs) l.found (map auto_tree (drop l.auto-index l.all)) ≡ autos_counted (stopped_table l.algs) l.fn.before (map auto_tree l.all)
