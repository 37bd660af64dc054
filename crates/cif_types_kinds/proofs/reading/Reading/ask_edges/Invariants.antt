use Rattle.std.proofs.Common.{◌≡◌, map, drop}
use Rattle.cif_source.specs.Source.{edge_tree}
use Rattle.cif_types_kinds.specs.Readings.{component_in, received_in}
use Rattle.cif_types_kinds.specs.Values.{first_told, edge_told}
use Rattle.cif_types_kinds.proofs.reading.Reading.ask_edges.Given as goal

abbrev pub invariant-loop-edge : goal.invariant-loop-edge
invariant-loop-edge l = first_told (edge_told (component_in l.self) (received_in l.self)) (map edge_tree (drop l.edge-index l.all)) ≡ first_told (edge_told (component_in l.self) (received_in l.self)) (map edge_tree l.all)
