use Rattle.std.proofs.Common.{◌≡◌, ◌++◌, map, drop}
use Rattle.st_check.specs.PlacedView.{expr_view}
use Rattle.st_check.proofs.ListedPlaces.{test_expr}
use Rattle.st_check.proofs.testing.+testing.Given as goal

abbrev pub invariant-tests_of-loop-operand : goal.invariant-tests_of-loop-operand
invariant-tests_of-loop-operand l =
    map test_expr l.found.items ++ map expr_view (drop l.operand-index l.operands) ≡ map expr_view l.operands
