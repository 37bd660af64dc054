use Rattle.std.proofs.Common.{◌≡◌, ap, ◌∙◌, arith}
use Rattle.st_ast.specs.View.{view_exprs}
use Rattle.st_check.specs.PlacedTree.{of_join}
use Rattle.st_check.specs.PlacedView.{operands_view, factors_view, terms_view}
use Rattle.st_check.specs.Placing.{placed_exprs}
use Rattle.st_check.proofs.ListedPlaces.{finished}
use Rattle.st_check.proofs.Listed.{operands-placed, factors-placed, terms-placed}
use Rattle.st_check.proofs.placing.+placed.Goals as goal

pub place_joined-returns-clause-placed : goal.place_joined-returns-clause-placed
place_joined-returns-clause-placed t c =
    let rest : operands_view c.args.join c.from_vec.result ≡ placed_exprs c.args.scope.now (of_join c.args.join) (view_exprs c.args.operands.now) =
    ap (operands_view c.args.join) c.from_vec.ensures
    ∙ operands-placed _ _ _ _ (finished _ _ c.loop-operand.found.items c.args.operands.now c.loop-operand.operand-index (omega arith) c.loop-operand.invariant.placed)
    in rw rest at c.join_all.ensures

pub place_factors-returns-clause-placed : goal.place_factors-returns-clause-placed
place_factors-returns-clause-placed t c =
    ap factors_view c.from_vec.ensures
    ∙ factors-placed _ _ _ (finished _ _ c.loop-factor.found.items c.args.factors.now c.loop-factor.factor-index (omega arith) c.loop-factor.invariant.placed)

pub place_terms-returns-clause-placed : goal.place_terms-returns-clause-placed
place_terms-returns-clause-placed t c =
    ap terms_view c.from_vec.ensures
    ∙ terms-placed _ _ _ (finished _ _ c.loop-term.found.items c.args.terms.now c.loop-term.term-index (omega arith) c.loop-term.invariant.placed)
