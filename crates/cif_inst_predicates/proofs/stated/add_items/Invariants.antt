use Rattle.std.proofs.Common.{◌≡◌, ◌++◌, map, drop}
use Rattle.cif_ast.specs.View.{view_items}
use Rattle.cif_source.specs.Source.{source_items}
use Rattle.cif_inst_predicates.specs.Stated.{items_stated}
use Rattle.cif_inst_predicates.specs.Views.{stated_tree}
use Rattle.cif_inst_predicates.proofs.stated.add_items.Given as goal

abbrev pub invariant-loop-item : goal.invariant-loop-item
invariant-loop-item l = map stated_tree l.all.items ++ items_stated l.component (source_items (view_items (drop l.item-index l.items))) ≡ map stated_tree l.fn.all.items ++ items_stated l.component (source_items (view_items l.items))
