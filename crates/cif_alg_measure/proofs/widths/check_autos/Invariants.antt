use Rattle.std.proofs.Common.{◌≡◌, map, drop}
use Rattle.cif_net.specs.View.{auto_tree, event_tree}
use Rattle.cif_alg_measure.specs.Meanings.{ranges_of}
use Rattle.cif_alg_measure.specs.Widths.{checked_autos}
use Rattle.cif_alg_measure.proofs.widths.check_autos.Given as goal

abbrev pub invariant-loop-auto : goal.invariant-loop-auto
invariant-loop-auto l = checked_autos (ranges_of l.ranges) (map event_tree l.events) (map auto_tree (drop l.auto-index l.autos)) ≡ checked_autos (ranges_of l.ranges) (map event_tree l.events) (map auto_tree l.autos)
