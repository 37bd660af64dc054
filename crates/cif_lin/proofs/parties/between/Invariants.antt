use Rattle.std.proofs.Common.{◌≡◌, ◌++◌, map, drop}
use Rattle.cif_net.specs.View.{auto_tree}
use Rattle.cif_lin.specs.Cells as c
use Rattle.cif_lin.specs.Parties.{cell_tree}
use Rattle.cif_lin.proofs.parties.between.Given as goal

abbrev pub invariant-loop-number : goal.invariant-loop-number
invariant-loop-number l =
    map (c.cell_between (map auto_tree l.net.autos) l.event l.sender l.receiver) l.numbers
    ≡ map cell_tree l.all ++ map (c.cell_between (map auto_tree l.net.autos) l.event l.sender l.receiver) (drop l.number-index l.numbers)
