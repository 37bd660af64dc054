use Rattle.std.proofs.Common.{◌≡◌, drop}
use Rattle.st_ast.specs.Values.{of_bool}
use Rattle.st_check.specs.PlacedTree.{joined_none}
use Rattle.st_scan.specs.PlacedValues.{steps_at}
use Rattle.st_check.specs.PlacedView.{terms_view, factors_view, operands_view}
use Rattle.st_scan.proofs.values.+values.Given as goal

abbrev pub invariant-sum-loop-term : goal.invariant-sum-loop-term
invariant-sum-loop-term l =
    steps_at l.so_far (terms_view (drop l.term-index l.terms)) l.memory ≡ steps_at l.first (terms_view l.terms) l.memory

abbrev pub invariant-product-loop-factor : goal.invariant-product-loop-factor
invariant-product-loop-factor l =
    steps_at l.so_far (factors_view (drop l.factor-index l.factors)) l.memory ≡ steps_at l.first (factors_view l.factors) l.memory

abbrev pub invariant-joined-loop-operand : goal.invariant-joined-loop-operand
invariant-joined-loop-operand l =
    steps_at (of_bool l.so_far) (operands_view l.join (drop l.operand-index l.operands)) l.memory ≡ steps_at (of_bool (joined_none l.join)) (operands_view l.join l.operands) l.memory
