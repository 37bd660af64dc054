use Rattle.std.proofs.Common.{◌≡◌, ◌++◌, map, drop}
use Rattle.cif_ast.specs.View.{view_items}
use Rattle.cif_source.specs.Source.{group_body, source_items}
use Rattle.cif_inst_components.specs.Outers.{name_now, names_inside}
use Rattle.cif_inst_components.proofs.outers.names_of_items.Given as goal

abbrev pub invariant-loop-item : goal.invariant-loop-item
invariant-loop-item l = map name_now l.names.items ++ names_inside (group_body (source_items (view_items (drop l.item-index l.items)))) ≡ names_inside (group_body (source_items (view_items l.items)))
