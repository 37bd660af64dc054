use Rattle.cif_order.specs.Spread.{IsSpread, visits_left}
use Rattle.cif_order.proofs.cycles.Spread.reaches_itself.Given as goal

abbrev pub invariant-loop-node : goal.invariant-loop-node
invariant-loop-node l = IsSpread l.needs l.start l.self.met l.self.waiting

abbrev pub decreases-loop-node : goal.decreases-loop-node
decreases-loop-node l = visits_left l.start l.self.met l.self.waiting
