use Rattle.std.proofs.Common.{◌≡◌, drop}
use Rattle.cif_alg.specs.Tallies.{opened_for}
use Rattle.cif_alg.proofs.counting.open_for.Given as goal

abbrev pub invariant-loop-event : goal.invariant-loop-event
invariant-loop-event l = opened_for (drop l.event-index l.events) l.tallies ≡ opened_for l.events l.initial.tallies
