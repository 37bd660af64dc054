use Rattle.std.proofs.Common.{◌≡◌, ◌++◌, map, flat_map, drop}
use Rattle.cif_source.specs.Source as source
use Rattle.cif_net.specs.View.{edge_tree}
use Rattle.cif_inst_automata.specs.Edges.{uses_edges}
use Rattle.cif_inst_automata.proofs.edges.add_edges.Given as goal

abbrev pub invariant-loop-edge : goal.invariant-loop-edge
invariant-loop-edge l = map edge_tree l.all ++ flat_map (uses_edges l.looking l.component l.from l.count) (map source.edge_tree (drop l.edge-index l.leaving)) ≡ map edge_tree l.fn.all ++ flat_map (uses_edges l.looking l.component l.from l.count) (map source.edge_tree l.leaving)
