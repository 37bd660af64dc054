use Rattle.std.proofs.Common.{◌≡◌, ◌++◌, map, drop}
use Rattle.cif_net_expr.specs.View.{view}
use Rattle.cif_net.specs.View.{auto_tree}
use Rattle.cif_lin.specs.Pieces as p
use Rattle.cif_lin.proofs.tests.closed.Given as goal

abbrev pub invariant-loop-option : goal.invariant-loop-option
invariant-loop-option l =
    p.closed (map auto_tree l.net.autos) l.number l.options ≡ map view l.all ++ p.closed (map auto_tree l.net.autos) l.number (drop l.option-index l.options)
