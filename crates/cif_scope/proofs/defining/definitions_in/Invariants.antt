use Rattle.std.proofs.Common.{◌≡◌, ◌++◌, drop}
use Rattle.cif_ast.specs.View.{view_items}
use Rattle.cif_source.specs.Source.{group_body, source_items}
use Rattle.cif_scope.specs.Written.{definitions_in}
use Rattle.cif_scope.proofs.defining.definitions_in.Given as goal

abbrev pub invariant-loop-item : goal.invariant-loop-item
invariant-loop-item l = l.all ++ definitions_in l.table l.body (group_body (source_items (view_items (drop l.item-index l.items)))) ≡ definitions_in l.table l.body (group_body (source_items (view_items l.items)))
