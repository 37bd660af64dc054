use Rattle.std.proofs.Common.{◌≡◌, ◌++◌, drop}
use Rattle.cif_ast.specs.View.{view_items}
use Rattle.cif_source.specs.Source.{source_items}
use Rattle.cif_inst_constants.specs.Slots.{row_of, slots_in}
use Rattle.cif_inst_constants.proofs.slots.add_items.Given as goal

abbrev pub invariant-loop-item : goal.invariant-loop-item
invariant-loop-item l = row_of l.row ++ slots_in (source_items (view_items (drop l.item-index l.items))) ≡ row_of l.fn.row ++ slots_in (source_items (view_items l.items))
