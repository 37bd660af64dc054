use Rattle.std.proofs.Common.{◌≡◌, drop}
use Rattle.cif_ast.specs.View.{view_items}
use Rattle.cif_source.specs.Source.{source_items}
use Rattle.cif_types_kinds.specs.Readings.{component_in, received_in}
use Rattle.cif_types_kinds.specs.Values.{instances_told}
use Rattle.cif_types_kinds.proofs.reading.Reading.ask_instances.Given as goal

abbrev pub invariant-loop-item : goal.invariant-loop-item
invariant-loop-item l = instances_told l.self.scopes.now l.self.table.now (component_in l.self) (received_in l.self) l.self.body l.count (source_items (view_items (drop l.item-index l.all))) ≡ instances_told l.self.scopes.now l.self.table.now (component_in l.self) (received_in l.self) l.self.body 0 (source_items (view_items l.all))
