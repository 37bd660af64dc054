use Rattle.std.proofs.Common.{◌≡◌, ◌-◌, find}
use Rattle.std.specs.List.{range_with_len}
use Rattle.cif_net.specs.View.{state_tree}
use Rattle.cif_sim.specs.Tried.{has_step}
use Rattle.cif_sim.specs.Waking.{AreIdle}
use Rattle.cif_sim.proofs.stepper.Stepper.first.Given as goal

abbrev pub invariant-loop-event : goal.invariant-loop-event
invariant-loop-event l = record {
  net : l.self ≡ l.initial.self;
  idle : AreIdle l.initial.self (state_tree l.state) l.marks;
  rest : find (has_step l.initial.self (state_tree l.state)) (range_with_len l.event (l.events - l.event)) ≡ find (has_step l.initial.self (state_tree l.state)) (range_with_len 0 l.events);
}

abbrev pub decreases-loop-event : goal.decreases-loop-event
decreases-loop-event l = l.events - l.event
