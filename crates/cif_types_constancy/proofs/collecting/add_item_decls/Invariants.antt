use Rattle.std.proofs.Common.{◌≡◌, ◌++◌, map, flat_map, drop}
use Rattle.cif_ast.specs.View.{view_items}
use Rattle.cif_source.specs.Source.{source_items, list_of_items}
use Rattle.cif_source.specs.Objects.{item_decls}
use Rattle.cif_types_constancy.specs.Collected.{decl_of}
use Rattle.cif_types_constancy.proofs.collecting.add_item_decls.Given as goal

abbrev pub invariant-loop-item : goal.invariant-loop-item
invariant-loop-item l = map decl_of l.found.items ++ flat_map item_decls (list_of_items (source_items (view_items (drop l.item-index l.items)))) ≡ map decl_of l.fn.found.items ++ flat_map item_decls (list_of_items (source_items (view_items l.items)))
