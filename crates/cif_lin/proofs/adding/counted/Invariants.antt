use Rattle.std.proofs.Common.{◌≡◌, ◌≤◌, ◌*◌, min, map, drop}
use Rattle.cif_lin.specs.Cells as c
use Rattle.cif_lin.specs.Parties.{cell_tree}
use Rattle.cif_lin.proofs.adding.counted.Given as goal

abbrev pub invariant-loop-party : goal.invariant-loop-party
invariant-loop-party l =
    (l.count ≤ 16385) × (min (l.count * c.count (map cell_tree (drop l.party-index l.parties))) 16385 ≡ min (c.count (map cell_tree l.parties)) 16385)
