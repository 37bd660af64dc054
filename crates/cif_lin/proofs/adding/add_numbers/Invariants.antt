use Rattle.std.proofs.Common.{◌≡◌, ◌++◌, map}
use Rattle.std.specs.List.{range_with_len}
use Rattle.cif_net.specs.View.{auto_tree, choice_tree}
use Rattle.cif_lin.specs.Cells as c
use Rattle.cif_lin.specs.Parties.{cell_tree}
use Rattle.cif_lin.proofs.adding.add_numbers.Given as goal

abbrev pub invariant-loop-number : goal.invariant-loop-number
invariant-loop-number l =
    map choice_tree l.all ≡ map choice_tree l.initial.all ++ map (c.choice_at (map auto_tree l.net.autos) l.event (map cell_tree l.parties)) (range_with_len 0 l.number)
