use Rattle.std.proofs.Common.{◌≡◌, ◌++◌, drop}
use Rattle.cif_types_table.specs.Types.{all_kinds}
use Rattle.cif_types_table.proofs.naming.Naming.all_kinds.Given as goal

abbrev pub invariant-loop-body : goal.invariant-loop-body
invariant-loop-body l = l.all ++ all_kinds l.self.scopes.now l.self.slots.now l.kinds l.body (drop l.body l.self.slots.now) ≡ all_kinds l.self.scopes.now l.self.slots.now l.kinds 0 l.self.slots.now
