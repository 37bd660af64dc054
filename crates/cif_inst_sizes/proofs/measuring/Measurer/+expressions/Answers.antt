use Rattle.std.proofs.Common.{◌∙◌, sym, ap}
use Rattle.cif_ast.specs.declared.expressions.Expr.{Expr}
use Rattle.cif_ast.specs.View.{view, view_form, view_terms, view_factors, view_branches}
use Rattle.cif_ast.proofs.ViewLemmas.{view_form-Sum, view_form-Product, view_form-If}
use Rattle.cif_net_model.proofs.ValueLaws.{ap-two}
use Rattle.cif_alg_measure.specs.Counted.{above_stopped}
use Rattle.cif_inst_sizes.specs.Counted.{tree_counted, shape_counted, terms_counted, factors_counted, branches_counted}
use Rattle.cif_inst_sizes.specs.Weights.{names_by}
use Rattle.cif_inst_sizes.proofs.CountedLaws.{several-counted}
use Rattle.cif_inst_sizes.proofs.measuring.Measurer.+expressions.Goals as goal

pub conditions-returns-in_ok-parts-in_default : goal.conditions-returns-in_ok-parts-in_default
conditions-returns-in_ok-parts-in_default t c =
    c.above.ensures ∙ ap above_stopped c.in_ok-parts-in_default.ensures ∙ several-counted (names_by c.args.self.now) c.args.all.now c.in_default.len_at_least

pub form-returns-in_ok-terms-in-Sum : goal.form-returns-in_ok-terms-in-Sum
form-returns-in_ok-terms-in-Sum t c =
    let n = names_by c.args.self.now in
    let first = c.in_ok-first-in-Sum.ensures ∙ ap (λ (e : Expr). tree_counted n (view e)) c.get-in-Sum.ensures in
    c.above-in-Sum.ensures
    ∙ ap above_stopped (c.in_ok-terms-in-Sum.ensures ∙ ap-two (λ a es. terms_counted n a (view_terms es)) first c.as_slice.ensures)
    ∙ sym (ap (λ f. shape_counted n (view_form f)) c.in-Sum.is ∙ ap (shape_counted n) (view_form-Sum c.in-Sum.first c.in-Sum.rest))

pub form-returns-in_ok-factors-in-Product : goal.form-returns-in_ok-factors-in-Product
form-returns-in_ok-factors-in-Product t c =
    let n = names_by c.args.self.now in
    let first = c.in_ok-first-in-Product.ensures ∙ ap (λ (e : Expr). tree_counted n (view e)) c.get-in-Product.ensures in
    c.above-in-Product.ensures
    ∙ ap above_stopped (c.in_ok-factors-in-Product.ensures ∙ ap-two (λ a es. factors_counted n a (view_factors es)) first c.as_slice-in-Product.ensures)
    ∙ sym (ap (λ f. shape_counted n (view_form f)) c.in-Product.is ∙ ap (shape_counted n) (view_form-Product c.in-Product.first c.in-Product.rest))

pub form-returns-in_ok-branches-in-If : goal.form-returns-in_ok-branches-in-If
form-returns-in_ok-branches-in-If t c =
    let n = names_by c.args.self.now in
    let other = c.in_ok-other-in-If.ensures ∙ ap (λ (e : Expr). tree_counted n (view e)) c.get-in-If.ensures in
    c.above-in-If.ensures
    ∙ ap above_stopped (c.in_ok-branches-in-If.ensures ∙ ap-two (λ a bs. branches_counted n a (view_branches bs)) other c.as_slice-in-If.ensures)
    ∙ sym (ap (λ f. shape_counted n (view_form f)) c.in-If.is ∙ ap (shape_counted n) (view_form-If c.in-If.branches c.in-If.other))
