use Rattle.std.proofs.Common.{◌≡◌, ◌++◌, map, drop, length}
use Rattle.cif_source.specs.Source as source
use Rattle.cif_net.specs.View.{edge_tree}
use Rattle.cif_inst_automata.specs.Edges.{locations_edges}
use Rattle.cif_inst_automata.proofs.edges.all_edges.Given as goal

abbrev pub invariant-loop-place : goal.invariant-loop-place
invariant-loop-place l = map edge_tree l.all ++ locations_edges l.looking l.component (length l.locs) l.place (map source.location_tree (drop l.place l.locs)) ≡ locations_edges l.looking l.component (length l.locs) 0 (map source.location_tree l.locs)
