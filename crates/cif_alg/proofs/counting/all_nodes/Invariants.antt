use Rattle.std.proofs.Common.{◌≡◌, length, map, drop}
use Rattle.cif_net.specs.View.{event_tree}
use Rattle.cif_alg.specs.Tallies.{tallies_nodes}
use Rattle.cif_alg.proofs.counting.all_nodes.Given as goal

abbrev pub invariant-loop-event : goal.invariant-loop-event
invariant-loop-event l = tallies_nodes l.nodes (map event_tree (drop (length l.yielded) l.events)) (drop (length l.yielded) l.tallies) ≡ tallies_nodes 0 (map event_tree l.events) l.tallies
