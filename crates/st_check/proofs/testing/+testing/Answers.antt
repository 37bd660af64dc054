use Rattle.std.proofs.Common.{ap, ◌∙◌, arith}
use Rattle.st_check.specs.PlacedTests.{exprs_of}
use Rattle.st_check.specs.PlacedView.{tests_view}
use Rattle.st_check.proofs.ListedPlaces.{finished, each-test}
use Rattle.st_check.proofs.testing.+testing.Goals as goal

pub tests_of-returns : goal.tests_of-returns
tests_of-returns t c =
    ap (λ ts. exprs_of (tests_view ts)) c.from_vec.ensures
    ∙ each-test c.loop-operand.found.items
    ∙ finished _ _ c.loop-operand.found.items c.args.operands.now c.loop-operand.operand-index (omega arith) c.loop-operand.invariant
