-- The simulation stays one of the net.
use Rattle.std.proofs.Common.{◌≡◌}
use Rattle.cif_cases.proofs.runs.put_calls.Given as goal

abbrev pub invariant-loop-field : goal.invariant-loop-field
invariant-loop-field l = l.sim.guarded ≡ l.guarded
