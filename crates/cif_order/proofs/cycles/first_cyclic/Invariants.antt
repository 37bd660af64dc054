use Rattle.std.proofs.Common.{◌≡◌, ℕ, ◌<◌, length}
use Rattle.cif_order.specs.Graph.{IsCyclic}
use Rattle.cif_order.specs.Spread.{AreEarlier}
use Rattle.cif_order.proofs.cycles.first_cyclic.Given as goal

abbrev pub invariant-loop-start : goal.invariant-loop-start
invariant-loop-start l = record {
  sized : length l.spread.met ≡ length l.needs;
  earlier : AreEarlier l.start l.spread.met;
  none : (x : ℕ) → x < l.start → IsCyclic l.needs x → ⊥;
}
