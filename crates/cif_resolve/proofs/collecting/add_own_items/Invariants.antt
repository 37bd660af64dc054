use Rattle.std.proofs.Common.{◌≡◌, ◌++◌, map, drop}
use Rattle.cif_ast.specs.View.{view_items}
use Rattle.cif_source.specs.Source.{source_items}
use Rattle.cif_scope_uses.specs.Views.{own_name_of}
use Rattle.cif_resolve.specs.Bodies.{own_in}
use Rattle.cif_resolve.proofs.collecting.add_own_items.Given as goal

abbrev pub invariant-loop-item : goal.invariant-loop-item
invariant-loop-item l = map own_name_of l.found.items ++ own_in (source_items (view_items (drop l.item-index l.items))) ≡ map own_name_of l.fn.found.items ++ own_in (source_items (view_items l.items))
