use Rattle.std.proofs.Common.{◌≡◌, ◌+◌, ◌++◌, map, drop, length}
use Rattle.cif_ast.specs.View.{view_items}
use Rattle.cif_source.specs.Source.{source_items}
use Rattle.cif_types_table.specs.Layouts.{slot_tree, named_tree, items_types, items_count, items_slots}
use Rattle.cif_types_table.proofs.walking.add_items.Given as goal

abbrev pub invariant-loop-item : goal.invariant-loop-item
invariant-loop-item l = record {
  types : map named_tree l.types.items ++ items_types l.body (source_items (view_items (drop l.item-index l.items))) ≡ map named_tree l.fn.types.items ++ items_types l.body (source_items (view_items l.items));
  count : length l.types.items + items_count (source_items (view_items (drop l.item-index l.items))) ≡ length l.fn.types.items + items_count (source_items (view_items l.items));
  slots : map slot_tree l.slots ++ items_slots (length l.types.items) (source_items (view_items (drop l.item-index l.items))) ≡ map slot_tree l.fn.slots ++ items_slots (length l.fn.types.items) (source_items (view_items l.items));
}
