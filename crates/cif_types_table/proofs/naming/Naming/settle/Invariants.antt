use Rattle.std.proofs.Common.{◌≡◌, drop}
use Rattle.cif_types_table.specs.Types.{settled}
use Rattle.cif_types_table.proofs.naming.Naming.settle.Given as goal

abbrev pub invariant-loop-named : goal.invariant-loop-named
invariant-loop-named l = settled l.self.scopes.now l.self.slots.now l.types l.kinds (drop l.named-index l.order) ≡ settled l.self.scopes.now l.self.slots.now l.types l.fn.kinds l.order
