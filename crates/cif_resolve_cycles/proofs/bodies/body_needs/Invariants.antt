use Rattle.std.proofs.Common.{◌≡◌}
use Rattle.cif_resolve_cycles.specs.Bodies.{needs_to}
use Rattle.cif_resolve_cycles.proofs.bodies.body_needs.Given as goal

abbrev pub invariant-loop-slot : goal.invariant-loop-slot
invariant-loop-slot l = l.needs ≡ needs_to l.scopes l.body l.slot
