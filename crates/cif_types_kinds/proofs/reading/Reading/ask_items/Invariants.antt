use Rattle.std.proofs.Common.{◌≡◌, drop}
use Rattle.cif_ast.specs.View.{view_items}
use Rattle.cif_source.specs.Source.{source_items}
use Rattle.cif_types_kinds.specs.Readings.{component_in, received_in}
use Rattle.cif_types_kinds.specs.Values.{decls_told, decl_told}
use Rattle.cif_types_kinds.proofs.reading.Reading.ask_items.Given as goal

abbrev pub invariant-loop-item : goal.invariant-loop-item
invariant-loop-item l = decls_told (decl_told (component_in l.self) (received_in l.self)) (source_items (view_items (drop l.item-index l.all))) ≡ decls_told (decl_told (component_in l.self) (received_in l.self)) (source_items (view_items l.all))
