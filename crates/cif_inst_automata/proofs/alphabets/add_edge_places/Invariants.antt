use Rattle.std.proofs.Common.{◌≡◌, ◌++◌, map, flat_map, drop}
use Rattle.cif_source.specs.Source.{edge_tree}
use Rattle.cif_inst_automata.specs.Alphabets.{edge_places}
use Rattle.cif_inst_automata.proofs.alphabets.add_edge_places.Given as goal

abbrev pub invariant-loop-edge : goal.invariant-loop-edge
invariant-loop-edge l = l.places ++ flat_map edge_places (map edge_tree (drop l.edge-index l.edges)) ≡ l.fn.places ++ flat_map edge_places (map edge_tree l.edges)
