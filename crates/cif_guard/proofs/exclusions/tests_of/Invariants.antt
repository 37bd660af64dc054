use Rattle.std.proofs.Common.{◌≡◌, ◌++◌, map, drop}
use Rattle.cif_net_expr.specs.View.{view}
use Rattle.cif_net.specs.View.{exclusion_tree}
use Rattle.cif_guard.specs.Tests.{tests_at}
use Rattle.cif_guard.proofs.exclusions.tests_of.Given as goal

abbrev pub invariant-loop-place : goal.invariant-loop-place
invariant-loop-place l =
    map view l.all ++ tests_at (map exclusion_tree l.exclusions) (drop l.place-index l.places) ≡ tests_at (map exclusion_tree l.exclusions) l.places
