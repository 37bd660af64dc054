use Rattle.std.proofs.Common.{◌≡◌, ◌++◌, drop}
use Rattle.cif_ast.specs.View.{view_items}
use Rattle.cif_source.specs.Source.{source_items}
use Rattle.cif_resolve_cycles.specs.Names.{needs_in}
use Rattle.cif_resolve_cycles.proofs.needs.add_items.Given as goal

abbrev pub invariant-loop-item : goal.invariant-loop-item
invariant-loop-item l = l.all ++ needs_in l.scopes l.firsts l.body (source_items (view_items (drop l.item-index l.items))) ≡ l.fn.all ++ needs_in l.scopes l.firsts l.body (source_items (view_items l.items))
