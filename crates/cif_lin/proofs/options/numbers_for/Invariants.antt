use Rattle.std.proofs.Common.{◌≡◌, ◌++◌, map, drop}
use Rattle.cif_net.specs.View.{role_of, edge_tree}
use Rattle.cif_lin.specs.Cells as c
use Rattle.cif_lin.proofs.options.numbers_for.Given as goal

abbrev pub invariant-loop-number : goal.invariant-loop-number
invariant-loop-number l =
    c.numbers_for (role_of l.role) l.event 0 (map edge_tree l.edges) ≡ l.all ++ c.numbers_for (role_of l.role) l.event l.number (map edge_tree (drop l.number l.edges))
