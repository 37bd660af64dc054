use Rattle.std.proofs.Common.{◌≡◌, ◌++◌, map, drop}
use Rattle.cif_net.specs.View.{auto_tree}
use Rattle.cif_inst.specs.Outlines as outlines
use Rattle.cif_inst.proofs.outlines.all_outlines.Given as goal

abbrev pub invariant-loop-alphabet : goal.invariant-loop-alphabet
invariant-loop-alphabet l = map auto_tree l.all ++ outlines.outlines l.next (drop l.alphabet-index l.alphabets) ≡ outlines.outlines l.first l.alphabets
