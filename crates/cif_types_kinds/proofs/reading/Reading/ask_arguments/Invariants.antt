use Rattle.std.proofs.Common.{◌≡◌, map, drop}
use Rattle.cif_ast.specs.View.{view}
use Rattle.cif_types_kinds.specs.Readings.{component_in, received_in}
use Rattle.cif_types_kinds.specs.Values.{arguments_told}
use Rattle.cif_types_kinds.proofs.reading.Reading.ask_arguments.Given as goal

abbrev pub invariant-loop-place : goal.invariant-loop-place
invariant-loop-place l = arguments_told l.self.scopes.now l.self.table.now (component_in l.self) (received_in l.self) l.definition l.place (map view (drop l.place l.all)) ≡ arguments_told l.self.scopes.now l.self.table.now (component_in l.self) (received_in l.self) l.definition 0 (map view l.all)
