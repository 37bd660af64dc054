use Rattle.std.proofs.Common.{◌≡◌, ◌++◌, map, drop}
use Rattle.cif_ast.specs.View.{view_items}
use Rattle.cif_source.specs.Source.{source_items}
use Rattle.cif_scope_uses.specs.Views.{use_of}
use Rattle.cif_scope.specs.Written.{body_of_written}
use Rattle.cif_resolve.specs.Bodies.{uses_in}
use Rattle.cif_resolve.proofs.collecting.add_items.Given as goal

abbrev pub invariant-loop-item : goal.invariant-loop-item
invariant-loop-item l = map use_of l.found.items ++ uses_in l.scopes (map body_of_written l.written) l.body l.instance (source_items (view_items (drop l.item-index l.items)))
    ≡ map use_of l.fn.found.items ++ uses_in l.scopes (map body_of_written l.written) l.body 0 (source_items (view_items l.items))
