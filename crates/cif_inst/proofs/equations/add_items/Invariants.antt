use Rattle.std.proofs.Common.{◌≡◌, drop}
use Rattle.cif_ast.specs.View.{view_items}
use Rattle.cif_source.specs.Source.{source_items}
use Rattle.cif_inst.specs.Equations.{values_in, items_added}
use Rattle.cif_inst.proofs.equations.add_items.Given as goal

abbrev pub invariant-loop-item : goal.invariant-loop-item
invariant-loop-item l = items_added (values_in l.own) (source_items (view_items (drop l.item-index l.items))) ≡ items_added (values_in l.fn.own) (source_items (view_items l.items))
