use Rattle.std.proofs.Common.{◌≡◌, ◌++◌, map, drop}
use Rattle.cif_scope_uses.specs.Views.{use_of}
use Rattle.cif_resolve_cycles.specs.Names.{use_needs}
use Rattle.cif_resolve_cycles.proofs.needs.use_needs.Given as goal

abbrev pub invariant-loop-used : goal.invariant-loop-used
invariant-loop-used l = l.needs ++ use_needs l.scopes l.firsts l.body (map use_of (drop l.used-index l.uses)) ≡ use_needs l.scopes l.firsts l.body (map use_of l.uses)
