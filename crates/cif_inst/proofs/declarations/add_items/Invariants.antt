use Rattle.std.proofs.Common.{◌≡◌, ◌++◌, map, drop}
use Rattle.cif_ast.specs.View.{view_items}
use Rattle.cif_source.specs.Source.{source_items}
use Rattle.cif_inst.specs.Declarations.{items_data}
use Rattle.cif_inst.specs.Views.{datum_tree}
use Rattle.cif_inst.proofs.declarations.add_items.Given as goal

abbrev pub invariant-loop-item : goal.invariant-loop-item
invariant-loop-item l = map datum_tree l.all.items ++ items_data l.sort l.component l.prefix (source_items (view_items (drop l.item-index l.items))) ≡ map datum_tree l.fn.all.items ++ items_data l.sort l.component l.prefix (source_items (view_items l.items))
