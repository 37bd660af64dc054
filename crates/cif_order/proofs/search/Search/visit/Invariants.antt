use Rattle.std.proofs.Common.{◌≡◌, Some}
use Rattle.std.specs.Prelude.{slice_get}
use Rattle.cif_order.specs.Search.{IsSound, AreKept, steps_left}
use Rattle.cif_order.specs.declared.search.Mark.TheVariants.{New}
use Rattle.cif_order.proofs.search.Search.visit.Given as goal

abbrev pub invariant-loop-node : goal.invariant-loop-node
invariant-loop-node l = record {
  sound : IsSound l.needs l.self.marks l.self.path l.self.order;
  kept : AreKept l.fn.self.marks l.self.marks;
  begun : slice_get l.self.marks l.root ≡ Some New → ⊥;
}

abbrev pub decreases-loop-node : goal.decreases-loop-node
decreases-loop-node l = steps_left l.needs l.self.marks
