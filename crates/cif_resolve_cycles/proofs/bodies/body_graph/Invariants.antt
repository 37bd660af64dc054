use Rattle.std.proofs.Common.{◌≡◌}
use Rattle.cif_resolve_cycles.specs.Bodies.{graph_to}
use Rattle.cif_resolve_cycles.proofs.bodies.body_graph.Given as goal

abbrev pub invariant-loop-body : goal.invariant-loop-body
invariant-loop-body l = l.all ≡ graph_to l.scopes l.body
