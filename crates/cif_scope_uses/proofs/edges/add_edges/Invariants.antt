use Rattle.std.proofs.Common.{◌≡◌, ◌++◌, map, flat_map, drop}
use Rattle.cif_source.specs.Source.{edge_tree}
use Rattle.cif_source.specs.Uses.{edge_uses}
use Rattle.cif_scope_uses.specs.Views.{use_of}
use Rattle.cif_scope_uses.proofs.edges.add_edges.Given as goal

abbrev pub invariant-loop-edge : goal.invariant-loop-edge
invariant-loop-edge l = map use_of l.found.items ++ flat_map edge_uses (map edge_tree (drop l.edge-index l.all)) ≡ map use_of l.fn.found.items ++ flat_map edge_uses (map edge_tree l.all)
