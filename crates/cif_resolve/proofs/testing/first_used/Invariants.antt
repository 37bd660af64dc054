use Rattle.std.proofs.Common.{◌≡◌, map, drop}
use Rattle.cif_scope_uses.specs.Views.{use_of}
use Rattle.cif_resolve.specs.Tests.{first_some, used_fault}
use Rattle.cif_resolve.proofs.testing.first_used.Given as goal

abbrev pub invariant-loop-used : goal.invariant-loop-used
invariant-loop-used l = first_some (used_fault l.scopes l.body) (map use_of l.uses) ≡ first_some (used_fault l.scopes l.body) (map use_of (drop l.used-index l.uses))
