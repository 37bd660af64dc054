use Rattle.std.proofs.Common.{◌≡◌, ◌++◌, map, drop}
use Rattle.cif_ast.specs.View.{view_items}
use Rattle.cif_source.specs.Source.{source_items}
use Rattle.cif_scope.specs.Written.{body_of_written, written_in}
use Rattle.cif_scope.proofs.written.+written.Given as goal

abbrev pub invariant-add_items-loop-item : goal.invariant-add_items-loop-item
invariant-add_items-loop-item l = map body_of_written l.found.items ++ written_in (source_items (view_items (drop l.item-index l.items))) ≡ map body_of_written l.fn.found.items ++ written_in (source_items (view_items l.items))
