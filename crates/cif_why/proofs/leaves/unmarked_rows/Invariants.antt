use Rattle.std.proofs.Common.{◌≡◌, ◌++◌, drop, map}
use Rattle.cif_net.specs.View.{edge_tree}
use Rattle.cif_why.specs.Marks.{unmarked_rows}
use Rattle.cif_why.proofs.leaves.unmarked_rows.Given as goal

abbrev pub invariant-loop-edge : goal.invariant-loop-edge
invariant-loop-edge l = l.all ++ unmarked_rows (map edge_tree (drop l.edge-index l.edges)) ≡ unmarked_rows (map edge_tree l.edges)
