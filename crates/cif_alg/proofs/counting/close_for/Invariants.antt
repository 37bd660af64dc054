use Rattle.std.proofs.Common.{◌≡◌, drop}
use Rattle.cif_alg.specs.Tallies.{closed_for}
use Rattle.cif_alg.proofs.counting.close_for.Given as goal

abbrev pub invariant-loop-event : goal.invariant-loop-event
invariant-loop-event l = closed_for (drop l.event-index l.events) l.tallies ≡ closed_for l.events l.initial.tallies
