use Rattle.std.proofs.Common.{◌≡◌, ◌++◌}
use Rattle.cif_resolve_cycles.specs.Names.{no_needs}
use Rattle.cif_resolve_cycles.proofs.needs.add_none.Given as goal

abbrev pub invariant-loop-name : goal.invariant-loop-name
invariant-loop-name l = l.all ≡ l.fn.all ++ no_needs l._name
