use Rattle.std.proofs.Common.{◌≡◌, ◌++◌, map, drop}
use Rattle.cif_source.specs.Source as source
use Rattle.cif_net.specs.View.{edge_tree}
use Rattle.cif_inst_automata.specs.Edges.{use_edge}
use Rattle.cif_inst_automata.proofs.edges.add_uses.Given as goal

abbrev pub invariant-loop-event_use : goal.invariant-loop-event_use
invariant-loop-event_use l = map edge_tree l.all ++ map (use_edge l.looking l.component l.ends.0 l.ends.1 (source.edge_tree l.edge)) (map source.use_tree (drop l.event_use-index l.uses)) ≡ map edge_tree l.fn.all ++ map (use_edge l.looking l.component l.ends.0 l.ends.1 (source.edge_tree l.edge)) (map source.use_tree l.uses)
