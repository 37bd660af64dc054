use Rattle.cif_net.specs.View.{net_tree}
use Rattle.plc_event.proofs.Aftering.{ResetSoFar}
use Rattle.plc_event.proofs.after.reset_places.Given as goal

abbrev pub invariant-loop-step : goal.invariant-loop-step
invariant-loop-step l = ResetSoFar (net_tree l.net) l.moves l.step-index l.before l.places
