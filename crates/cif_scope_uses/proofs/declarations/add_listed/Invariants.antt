use Rattle.std.proofs.Common.{◌≡◌, ◌++◌, map, drop}
use Rattle.cif_source.specs.Uses.{asking}
use Rattle.cif_scope_uses.specs.Views.{sort_of, use_of}
use Rattle.cif_scope_uses.proofs.declarations.add_listed.Given as goal

abbrev pub invariant-loop-name : goal.invariant-loop-name
invariant-loop-name l = map use_of l.found.items ++ asking (sort_of l.asks) (drop l.name-index l.all) ≡ map use_of l.fn.found.items ++ asking (sort_of l.asks) l.all
