use Rattle.std.proofs.Common.{◌≡◌, ◌++◌, map, flat_map, drop}
use Rattle.cif_source.specs.Source.{edge_tree}
use Rattle.cif_inst_automata.specs.Alphabets.{edge_used}
use Rattle.cif_inst_automata.proofs.used.add_edges.Given as goal

abbrev pub invariant-loop-edge : goal.invariant-loop-edge
invariant-loop-edge l = l.all ++ flat_map (edge_used l.looking l.component) (map edge_tree (drop l.edge-index l.edges)) ≡ l.fn.all ++ flat_map (edge_used l.looking l.component) (map edge_tree l.edges)
