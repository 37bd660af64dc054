use Rattle.std.proofs.Common.{◌≡◌, drop}
use Rattle.cif_alg.specs.Tallies.{stays_noted}
use Rattle.cif_alg.proofs.counting.note_stays.Given as goal

abbrev pub invariant-loop-event : goal.invariant-loop-event
invariant-loop-event l = stays_noted (drop l.event-index l.events) l.tallies ≡ stays_noted l.events l.initial.tallies
