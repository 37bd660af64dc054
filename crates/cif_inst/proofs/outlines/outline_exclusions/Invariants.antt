use Rattle.std.proofs.Common.{◌≡◌, ◌++◌, map, drop}
use Rattle.cif_net.specs.View.{exclusion_tree}
use Rattle.cif_inst.specs.Outlines as outlines
use Rattle.cif_inst.proofs.outlines.outline_exclusions.Given as goal

abbrev pub invariant-loop-place : goal.invariant-loop-place
invariant-loop-place l = map exclusion_tree l.all ++ outlines.outline_exclusions l.place (drop l.place l.excluded) ≡ outlines.outline_exclusions 0 l.excluded
