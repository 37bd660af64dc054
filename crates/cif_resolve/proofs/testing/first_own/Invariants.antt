use Rattle.std.proofs.Common.{◌≡◌, map, drop}
use Rattle.cif_scope_uses.specs.Views.{own_name_of}
use Rattle.cif_resolve.specs.Tests.{first_some, own_fault}
use Rattle.cif_resolve.proofs.testing.first_own.Given as goal

abbrev pub invariant-loop-name : goal.invariant-loop-name
invariant-loop-name l = first_some (own_fault l.scopes l.body) (map own_name_of l.names) ≡ first_some (own_fault l.scopes l.body) (map own_name_of (drop l.name-index l.names))
