use Rattle.std.proofs.Common.{◌≡◌, ◌+◌, ◌≤◌, drop}
use Rattle.cif_ast.specs.View.{view_items}
use Rattle.cif_source.specs.Source.{source_items}
use Rattle.cif_inst_components.specs.Sizes.{stop, items_size}
use Rattle.cif_inst_components.proofs.sizes.with_items.Given as goal

abbrev pub invariant-loop-item : goal.invariant-loop-item
invariant-loop-item l = (l.count ≤ 100001) × (stop (l.count + items_size (source_items (view_items (drop l.item-index l.items)))) ≡ stop (l.fn.count + items_size (source_items (view_items l.items))))
