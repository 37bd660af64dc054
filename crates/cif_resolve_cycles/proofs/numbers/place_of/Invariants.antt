use Rattle.std.proofs.Common.{◌≡◌, drop}
use Rattle.cif_resolve_cycles.specs.Names.{place_of}
use Rattle.cif_resolve_cycles.proofs.numbers.place_of.Given as goal

abbrev pub invariant-loop-body : goal.invariant-loop-body
invariant-loop-body l = place_of l.scopes.table.scopes l.name ≡ place_of (drop l.body l.scopes.table.scopes) l.slot
