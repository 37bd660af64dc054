use Rattle.std.proofs.Common.{◌≡◌, ◌++◌, map, drop}
use Rattle.cif_types_table.specs.Types.{type_needs}
use Rattle.cif_types_table.proofs.naming.Naming.type_graph.Given as goal

abbrev pub invariant-loop-named : goal.invariant-loop-named
invariant-loop-named l = l.all ++ map (type_needs l.self.scopes.now l.self.slots.now) (drop l.named-index l.types) ≡ map (type_needs l.self.scopes.now l.self.slots.now) l.types
