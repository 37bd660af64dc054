use Rattle.std.proofs.Common.{◌≡◌, ◌++◌, map, flat_map, drop}
use Rattle.cif_ast.specs.View.{view}
use Rattle.cif_source.specs.Uses.{value_uses}
use Rattle.cif_scope_uses.specs.Views.{use_of}
use Rattle.cif_scope_uses.proofs.edges.add_values.Given as goal

abbrev pub invariant-loop-expr : goal.invariant-loop-expr
invariant-loop-expr l = map use_of l.found.items ++ flat_map value_uses (map view (drop l.expr-index l.all)) ≡ map use_of l.fn.found.items ++ flat_map value_uses (map view l.all)
