use Rattle.std.proofs.Common.{◌≡◌, ◌++◌, map, drop}
use Rattle.cif_net.specs.View.{invariant_tree}
use Rattle.cif_inst.specs.Outlines as outlines
use Rattle.cif_inst.proofs.outlines.outline_invariants.Given as goal

abbrev pub invariant-loop-one : goal.invariant-loop-one
invariant-loop-one l = map invariant_tree l.all ++ outlines.outline_invariants l.next (drop l._one-index l.measures) ≡ outlines.outline_invariants l.first l.measures
