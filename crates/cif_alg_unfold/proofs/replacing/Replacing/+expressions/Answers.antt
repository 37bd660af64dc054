use Rattle.std.proofs.Common.{map, ◌∙◌, ap}
use Rattle.cif_net_expr.specs.View.{view, view_branch, view_factor, view_mul, view_term}
use Rattle.cif_alg_unfold.specs.Tables.{by_table}
use Rattle.cif_alg_unfold.proofs.ListLaws.{exprs_ended, terms_ended, factors_ended, branches_ended, terms_stepped, factors_stepped, branches_stepped}
use Rattle.cif_alg_unfold.proofs.replacing.Replacing.+expressions.Goals as goal

pub exprs-returns : goal.exprs-returns
exprs-returns t c = exprs_ended (by_table c.args.self.now.by.now) (map view c.loop-expr.made) c.args.all.now c.loop-expr.expr-index c.loop-expr-test.false c.loop-expr.invariant

pub terms-returns : goal.terms-returns
terms-returns t c = terms_ended (by_table c.args.self.now.by.now) (map view_term c.loop-one.made) c.args.all.now c.loop-one.one-index c.loop-one-test.false c.loop-one.invariant

pub factors-returns : goal.factors-returns
factors-returns t c = factors_ended (by_table c.args.self.now.by.now) (map view_factor c.loop-one.made) c.args.all.now c.loop-one.one-index c.loop-one-test.false c.loop-one.invariant

pub branches-returns : goal.branches-returns
branches-returns t c = branches_ended (by_table c.args.self.now.by.now) (map view_branch c.loop-one.made) c.args.all.now c.loop-one.one-index c.loop-one-test.false c.loop-one.invariant

pub terms-loop-one-preserved : goal.terms-loop-one-preserved
terms-loop-one-preserved t c =
    terms_stepped (by_table c.args.self.now.by.now) c.loop-one.made _ c.args.all.now c.loop-one.one-index c.one-item.result c.term.result c.loop-one-test.true c.one-item.is
    (c.term.ensures ∙ ap (λ x. (c.one-item.result.minus, x)) c.in_ok-value.ensures) c.in_ok-push.ensures.ok c.loop-one.invariant

pub factors-loop-one-preserved : goal.factors-loop-one-preserved
factors-loop-one-preserved t c =
    factors_stepped (by_table c.args.self.now.by.now) c.loop-one.made _ c.args.all.now c.loop-one.one-index c.one-item.result c.operand.result c.loop-one-test.true c.one-item.is
    (c.operand.ensures ∙ ap (λ x. (view_mul c.one-item.result.op, x)) c.in_ok-value.ensures) c.in_ok-push.ensures.ok c.loop-one.invariant

pub branches-loop-one-preserved : goal.branches-loop-one-preserved
branches-loop-one-preserved t c =
    branches_stepped (by_table c.args.self.now.by.now) c.loop-one.made _ c.args.all.now c.loop-one.one-index c.one-item.result c.branch-cond-in-loop-one.result c.loop-one-test.true c.one-item.is
    (c.branch-cond-in-loop-one.ensures ∙ (λ i. (c.in_ok-cond.ensures i, c.in_ok-value.ensures i))) c.in_ok-push.ensures.ok c.loop-one.invariant
