use Rattle.std.proofs.Common.{◌≡◌, ◌-◌, length}
use Rattle.cif_resolve_cycles.specs.Bodies.{nearest}
use Rattle.cif_resolve_cycles.proofs.places.nearest.Given as goal

abbrev pub invariant-loop-turn : goal.invariant-loop-turn
invariant-loop-turn l = nearest l.scopes.table l.places (length l.scopes.table.scopes) l.fn.body ≡ nearest l.scopes.table l.places (length l.scopes.table.scopes - l._turn) l.at
