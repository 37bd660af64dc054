use Rattle.std.proofs.Common.{◌≡◌, drop}
use Rattle.cif_sim.specs.Marks.{woken}
use Rattle.cif_sim.proofs.waking.wake_all.Given as goal

abbrev pub invariant-loop-event : goal.invariant-loop-event
invariant-loop-event l = woken (drop l.event-index l.events) l.marks ≡ woken l.events l.initial.marks
