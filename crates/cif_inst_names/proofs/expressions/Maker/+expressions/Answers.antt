use Rattle.std.proofs.Common.{◌≡◌, true, map, IfOk, subst, sym, ◌∙◌, ap}
use Rattle.cif_ast.specs.View.{view_exprs}
use Rattle.cif_ast.specs.declared.expressions.Branch.{out-Branch}
use Rattle.cif_net_expr.specs.Tree.{net_expr, n_and}
use Rattle.cif_net_expr.specs.View as net
use Rattle.cif_net_expr.proofs.ViewLemmas.{view_form-And, view_form-Bool}
use Rattle.cif_inst_model.specs.Translation.{net_exprs_of, conjunction}
use Rattle.cif_inst_names.specs.Places.{first_at}
use Rattle.cif_inst_names.specs.ReadsNames.{name_in}
use Rattle.cif_inst_names.proofs.ListLaws.{exprs_ended, terms_ended, factors_ended, branches_ended, terms_stepped, factors_stepped, branches_stepped}
use Rattle.cif_inst_names.proofs.PlaceLaws.{conjoined_all, no_conditions}
use Rattle.cif_inst_names.proofs.expressions.Maker.+expressions.Goals as goal

pub exprs-returns : goal.exprs-returns
exprs-returns g t c = exprs_ended (name_in c.args.self.now.looking.now c.args.self.now.component) (map net.view c.loop-expr.made) c.args.all.now c.loop-expr.expr-index c.loop-expr-test.false c.loop-expr.invariant

pub terms-returns : goal.terms-returns
terms-returns g t c = terms_ended (name_in c.args.self.now.looking.now c.args.self.now.component) (map net.view_term c.loop-one.made) c.args.all.now c.loop-one.one-index c.loop-one-test.false c.loop-one.invariant

pub factors-returns : goal.factors-returns
factors-returns g t c = factors_ended (name_in c.args.self.now.looking.now c.args.self.now.component) (map net.view_factor c.loop-one.made) c.args.all.now c.loop-one.one-index c.loop-one-test.false c.loop-one.invariant

pub branches-returns : goal.branches-returns
branches-returns g t c = branches_ended (name_in c.args.self.now.looking.now c.args.self.now.component) (map net.view_branch c.loop-one.made) c.args.all.now c.loop-one.one-index c.loop-one-test.false c.loop-one.invariant

pub condition-returns-in_ok-parts-in-len1-up : goal.condition-returns-in_ok-parts-in-len1-up
condition-returns-in_ok-parts-in-len1-up g t c =
    let name = name_in c.args.self.now.looking.now c.args.self.now.component in
    let parts = c.in_ok-parts-in-len1-up.parts in
    let made : net.view_exprs parts ≡ net_exprs_of name (view_exprs c.args.conds.now) = c.in_ok-parts-in-len1-up.ensures in
    let place : c.first_place-at.result ≡ first_at (net_exprs_of name (view_exprs c.args.conds.now)) =
    c.first_place-at.ensures ∙ ap (λ es. first_at (net.view_exprs es)) c.as_slice.ensures ∙ ap first_at made in
    subst (λ y. IfOk c.node-in-len1-up.result (λ x. net.view x ≡ y))
    (ap (λ f. net_expr f c.first_place-at.result) (view_form-And parts)
    ∙ ap (λ es. net_expr (n_and es) c.first_place-at.result) made
    ∙ ap (net_expr (n_and (net_exprs_of name (view_exprs c.args.conds.now)))) place
    ∙ sym (conjoined_all name c.args.conds.now c.in-len1-up.len_at_least))
    c.node-in-len1-up.ensures

pub condition-returns-in-empty : goal.condition-returns-in-empty
condition-returns-in-empty g t c =
    let name = name_in c.args.self.now.looking.now c.args.self.now.component in
    subst (λ y. IfOk c.node.result (λ x. net.view x ≡ y)) (ap (λ f. net_expr f 0) (view_form-Bool true) ∙ no_conditions name c.args.conds.now c.in-empty.len_below) c.node.ensures

pub terms-loop-one-preserved : goal.terms-loop-one-preserved
terms-loop-one-preserved g t c =
    terms_stepped (name_in c.args.self.now.looking.now c.args.self.now.component) c.loop-one.made _ c.args.all.now c.loop-one.one-index c.one-item.result c.term.result c.loop-one-test.true c.one-item.is
    (c.term.ensures ∙ ap (λ x. (c.one-item.result.minus, x)) c.in_ok-value.ensures) c.in_ok-push.ensures.ok c.loop-one.invariant

pub factors-loop-one-preserved : goal.factors-loop-one-preserved
factors-loop-one-preserved g t c =
    factors_stepped (name_in c.args.self.now.looking.now c.args.self.now.component) c.loop-one.made _ c.args.all.now c.loop-one.one-index c.one-item.result c.operand.result c.loop-one-test.true c.one-item.is
    (c.operand.ensures ∙ (λ i. (c.factor.ensures i, c.in_ok-value.ensures i))) c.in_ok-push.ensures.ok c.loop-one.invariant

pub branches-loop-one-preserved : goal.branches-loop-one-preserved
branches-loop-one-preserved g t c =
    let name = name_in c.args.self.now.looking.now c.args.self.now.component in
    let cond : net.view c.in_ok-cond.cond ≡ conjunction (net_exprs_of name (view_exprs (out-Branch c.one-item.result).conds)) = c.in_ok-cond.ensures ∙ ap (λ es. conjunction (net_exprs_of name (view_exprs es))) c.as_slice.ensures in
    branches_stepped name c.loop-one.made _ c.args.all.now c.loop-one.one-index c.one-item.result c.branch-cond-in-loop-one.result c.loop-one-test.true c.one-item.is
    (c.branch-cond-in-loop-one.ensures ∙ (λ i. (cond i, c.in_ok-value.ensures i))) c.in_ok-push.ensures.ok c.loop-one.invariant
