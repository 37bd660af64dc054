use Rattle.std.proofs.Common.{◌≡◌, drop}
use Rattle.cif_ast.specs.View.{view_items}
use Rattle.cif_source.specs.Source.{source_items}
use Rattle.cif_types_kinds.specs.Readings.{component_in}
use Rattle.cif_types_arguments.specs.Arguments.{items_told}
use Rattle.cif_types_arguments.proofs.checking.check_items.Given as goal

abbrev pub invariant-loop-item : goal.invariant-loop-item
invariant-loop-item l = items_told l.reading.table.now l.all (component_in l.reading) l.reading.scopes.now l.reading.body l.count (source_items (view_items (drop l.item-index l.items))) ≡ items_told l.reading.table.now l.all (component_in l.reading) l.reading.scopes.now l.reading.body 0 (source_items (view_items l.items))
