use Rattle.cif_eval.specs.Choices.{system_of}
use Rattle.cif_sim.proofs.Begun.{Begun}
use Rattle.cif_sim.proofs.starts.starts.Given as goal

abbrev pub invariant-loop-event : goal.invariant-loop-event
invariant-loop-event l = Begun (system_of l.guarded) l.starts l.next l.event
