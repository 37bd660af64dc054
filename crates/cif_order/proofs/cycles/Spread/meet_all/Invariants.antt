use Rattle.cif_order.specs.Spread.{visits_left}
use Rattle.cif_order.proofs.SpreadLaws.{IsMeeting}
use Rattle.cif_order.proofs.cycles.Spread.meet_all.Given as goal

abbrev pub invariant-loop-need : goal.invariant-loop-need
invariant-loop-need l = IsMeeting l.needs l.start l.node l.need-index l.self.met l.self.waiting (visits_left l.start l.fn.self.met l.fn.self.waiting)
