use Rattle.std.proofs.Common.{refl, sym, ap, ap₂, ◌∙◌}
use Rattle.cif_net_expr.specs.Tree.{n_alg, n_compare, n_if, n_iff, n_implies, n_input, n_loc, n_max, n_min, n_number, n_product, n_received, n_sum, n_truth, n_var}
use Rattle.cif_net_expr.specs.View.{view, view_branches, view_cmp, view_factors, view_form, view_mul, view_terms}
use Rattle.cif_net_expr.proofs.ViewLemmas.{view_form-Alg, view_form-Bool, view_form-Compare, view_form-If, view_form-Iff, view_form-Implies, view_form-Input, view_form-Int, view_form-Loc, view_form-Max, view_form-Min, view_form-Product, view_form-Received, view_form-Sum, view_form-Var}
use Rattle.st_ast.specs.Tree.{assign, no_stms, stms}
use Rattle.st_ast.specs.View as st
use Rattle.st_ast.specs.View.{view_expr, view_stmts}
use Rattle.plc_expr.specs.Texts.{before, factor, factors_before, mul_of, temps, term, terms_before}
use Rattle.plc_expr.specs.Written.{naming_of}
use Rattle.plc_expr_walk.proofs.Forming.{if-added, leaf-added, two-added}
use Rattle.plc_expr_walk.proofs.Listing.{branches-before, branches-before-end, branches-next, branches-text, branches-text-end, factors-before, factors-before-end, factors-next, factors-text, factors-text-end, list-before, list-before-end, list-next, list-text, terms-before, terms-before-end, terms-next, terms-text, terms-text-end}
use Rattle.plc_expr_walk.proofs.walk.+walk.Goals as goal

-- ---- forms

pub form_written-returns-in-Bool-clause-before : goal.form_written-returns-in-Bool-clause-before
form_written-returns-in-Bool-clause-before t c =
    leaf-added c.new.result (naming_of c.args.names.now) c.args.draft.now.next (view_form c.args.form.now) (n_truth c.in-Bool.b) (ap view_form c.in-Bool.is ∙ view_form-Bool c.in-Bool.b) (view_stmts c.args.draft.now.statements) refl

pub form_written-returns-in-Int-clause-before : goal.form_written-returns-in-Int-clause-before
form_written-returns-in-Int-clause-before t c =
    leaf-added c.number_of.result (naming_of c.args.names.now) c.args.draft.now.next (view_form c.args.form.now) (n_number c.in-Int.value) (ap view_form c.in-Int.is ∙ view_form-Int c.in-Int.value) (view_stmts c.args.draft.now.statements) refl

pub form_written-returns-in-Loc-clause-before : goal.form_written-returns-in-Loc-clause-before
form_written-returns-in-Loc-clause-before t c =
    leaf-added c.located.result (naming_of c.args.names.now) c.args.draft.now.next (view_form c.args.form.now) (n_loc c.in-Loc.auto c.in-Loc.place) (ap view_form c.in-Loc.is ∙ view_form-Loc c.in-Loc.auto c.in-Loc.place) (view_stmts c.args.draft.now.statements) refl

pub form_written-returns-in-Var-clause-before : goal.form_written-returns-in-Var-clause-before
form_written-returns-in-Var-clause-before t c =
    leaf-added c.variable.result (naming_of c.args.names.now) c.args.draft.now.next (view_form c.args.form.now) (n_var c.in-Var.number) (ap view_form c.in-Var.is ∙ view_form-Var c.in-Var.number) (view_stmts c.args.draft.now.statements) refl

pub form_written-returns-in-Input-clause-before : goal.form_written-returns-in-Input-clause-before
form_written-returns-in-Input-clause-before t c =
    leaf-added c.input.result (naming_of c.args.names.now) c.args.draft.now.next (view_form c.args.form.now) (n_input c.in-Input.number) (ap view_form c.in-Input.is ∙ view_form-Input c.in-Input.number) (view_stmts c.args.draft.now.statements) refl

pub form_written-returns-in-Alg-clause-before : goal.form_written-returns-in-Alg-clause-before
form_written-returns-in-Alg-clause-before t c =
    leaf-added c.new-in-Alg.result (naming_of c.args.names.now) c.args.draft.now.next (view_form c.args.form.now) (n_alg c.in-Alg.field-0) (ap view_form c.in-Alg.is ∙ view_form-Alg c.in-Alg.field-0) (view_stmts c.args.draft.now.statements) refl

pub form_written-returns-in-Received-clause-before : goal.form_written-returns-in-Received-clause-before
form_written-returns-in-Received-clause-before t c =
    leaf-added c.received.result (naming_of c.args.names.now) c.args.draft.now.next (view_form c.args.form.now) n_received (ap view_form c.in-Received.is ∙ view_form-Received) (view_stmts c.args.draft.now.statements) refl

pub form_written-returns-in_ok-right-in-Min-clause-before : goal.form_written-returns-in_ok-right-in-Min-clause-before
form_written-returns-in_ok-right-in-Min-clause-before t c =
    two-added c.least_of.result (naming_of c.args.names.now) c.args.draft.now.next (view_form c.args.form.now) (n_min (view c.get-in-Min.result.now) (view c.get-in-Min-2.result.now))
    (ap view_form c.in-Min.is ∙ view_form-Min c.in-Min.a c.in-Min.b ∙ ap₂ (λ p q. n_min (view p) (view q)) (sym c.get-in-Min.ensures) (sym c.get-in-Min-2.ensures)) (view_stmts c.args.draft.now.statements)
    (before (naming_of c.args.names.now) c.args.draft.now.next (view c.get-in-Min.result.now)) (temps (view c.get-in-Min.result.now)) c.written-in-Min.new.draft.next (λ j. before (naming_of c.args.names.now) j (view c.get-in-Min-2.result.now)) (view_stmts c.written-in-Min.new.draft.statements) (view_stmts c.written-in-Min-2.new.draft.statements)
    refl c.in_ok-left-in-Min.ensures.before c.in_ok-left-in-Min.ensures.next c.in_ok-right-in-Min.ensures.before

pub form_written-returns-in_ok-right-in-Max-clause-before : goal.form_written-returns-in_ok-right-in-Max-clause-before
form_written-returns-in_ok-right-in-Max-clause-before t c =
    two-added c.greatest_of.result (naming_of c.args.names.now) c.args.draft.now.next (view_form c.args.form.now) (n_max (view c.get-in-Max.result.now) (view c.get-in-Max-2.result.now))
    (ap view_form c.in-Max.is ∙ view_form-Max c.in-Max.a c.in-Max.b ∙ ap₂ (λ p q. n_max (view p) (view q)) (sym c.get-in-Max.ensures) (sym c.get-in-Max-2.ensures)) (view_stmts c.args.draft.now.statements)
    (before (naming_of c.args.names.now) c.args.draft.now.next (view c.get-in-Max.result.now)) (temps (view c.get-in-Max.result.now)) c.written-in-Max.new.draft.next (λ j. before (naming_of c.args.names.now) j (view c.get-in-Max-2.result.now)) (view_stmts c.written-in-Max.new.draft.statements) (view_stmts c.written-in-Max-2.new.draft.statements)
    refl c.in_ok-left-in-Max.ensures.before c.in_ok-left-in-Max.ensures.next c.in_ok-right-in-Max.ensures.before

pub form_written-returns-in_ok-right-in-Implies-clause-before : goal.form_written-returns-in_ok-right-in-Implies-clause-before
form_written-returns-in_ok-right-in-Implies-clause-before t c =
    two-added c.implication_of.result (naming_of c.args.names.now) c.args.draft.now.next (view_form c.args.form.now) (n_implies (view c.get-in-Implies.result.now) (view c.get-in-Implies-2.result.now))
    (ap view_form c.in-Implies.is ∙ view_form-Implies c.in-Implies.a c.in-Implies.b ∙ ap₂ (λ p q. n_implies (view p) (view q)) (sym c.get-in-Implies.ensures) (sym c.get-in-Implies-2.ensures)) (view_stmts c.args.draft.now.statements)
    (before (naming_of c.args.names.now) c.args.draft.now.next (view c.get-in-Implies.result.now)) (temps (view c.get-in-Implies.result.now)) c.written-in-Implies.new.draft.next (λ j. before (naming_of c.args.names.now) j (view c.get-in-Implies-2.result.now)) (view_stmts c.written-in-Implies.new.draft.statements) (view_stmts c.written-in-Implies-2.new.draft.statements)
    refl c.in_ok-left-in-Implies.ensures.before c.in_ok-left-in-Implies.ensures.next c.in_ok-right-in-Implies.ensures.before

pub form_written-returns-in_ok-right-in-Iff-clause-before : goal.form_written-returns-in_ok-right-in-Iff-clause-before
form_written-returns-in_ok-right-in-Iff-clause-before t c =
    two-added c.equality_of.result (naming_of c.args.names.now) c.args.draft.now.next (view_form c.args.form.now) (n_iff (view c.get-in-Iff.result.now) (view c.get-in-Iff-2.result.now))
    (ap view_form c.in-Iff.is ∙ view_form-Iff c.in-Iff.a c.in-Iff.b ∙ ap₂ (λ p q. n_iff (view p) (view q)) (sym c.get-in-Iff.ensures) (sym c.get-in-Iff-2.ensures)) (view_stmts c.args.draft.now.statements)
    (before (naming_of c.args.names.now) c.args.draft.now.next (view c.get-in-Iff.result.now)) (temps (view c.get-in-Iff.result.now)) c.written-in-Iff.new.draft.next (λ j. before (naming_of c.args.names.now) j (view c.get-in-Iff-2.result.now)) (view_stmts c.written-in-Iff.new.draft.statements) (view_stmts c.written-in-Iff-2.new.draft.statements)
    refl c.in_ok-left-in-Iff.ensures.before c.in_ok-left-in-Iff.ensures.next c.in_ok-right-in-Iff.ensures.before

pub form_written-returns-in_ok-right-in-Compare-clause-before : goal.form_written-returns-in_ok-right-in-Compare-clause-before
form_written-returns-in_ok-right-in-Compare-clause-before t c =
    two-added c.comparison_of.result (naming_of c.args.names.now) c.args.draft.now.next (view_form c.args.form.now) (n_compare (view c.get-in-Compare.result.now) (view_cmp c.in-Compare.op) (view c.get-in-Compare-2.result.now))
    (ap view_form c.in-Compare.is ∙ view_form-Compare c.in-Compare.left c.in-Compare.op c.in-Compare.right ∙ ap₂ (λ p q. n_compare (view p) (view_cmp c.in-Compare.op) (view q)) (sym c.get-in-Compare.ensures) (sym c.get-in-Compare-2.ensures)) (view_stmts c.args.draft.now.statements)
    (before (naming_of c.args.names.now) c.args.draft.now.next (view c.get-in-Compare.result.now)) (temps (view c.get-in-Compare.result.now)) c.written-in-Compare.new.draft.next (λ j. before (naming_of c.args.names.now) j (view c.get-in-Compare-2.result.now)) (view_stmts c.written-in-Compare.new.draft.statements) (view_stmts c.written-in-Compare-2.new.draft.statements)
    refl c.in_ok-left-in-Compare.ensures.before c.in_ok-left-in-Compare.ensures.next c.in_ok-right-in-Compare.ensures.before

pub form_written-returns-in_ok-terms_written-in-Sum-clause-before : goal.form_written-returns-in_ok-terms_written-in-Sum-clause-before
form_written-returns-in_ok-terms_written-in-Sum-clause-before t c =
    two-added c.sum_of.result (naming_of c.args.names.now) c.args.draft.now.next (view_form c.args.form.now) (n_sum (view c.get-in-Sum.result.now) (view_terms c.as_slice.result.now))
    (ap view_form c.in-Sum.is ∙ view_form-Sum c.in-Sum.first c.in-Sum.rest ∙ ap₂ (λ p q. n_sum (view p) (view_terms q)) (sym c.get-in-Sum.ensures) (sym c.as_slice.ensures)) (view_stmts c.args.draft.now.statements)
    (before (naming_of c.args.names.now) c.args.draft.now.next (view c.get-in-Sum.result.now)) (temps (view c.get-in-Sum.result.now)) c.written-in-Sum.new.draft.next (λ j. terms_before (naming_of c.args.names.now) j (view_terms c.as_slice.result.now)) (view_stmts c.written-in-Sum.new.draft.statements) (view_stmts c.terms_written.new.draft.statements)
    refl c.in_ok-first-in-Sum.ensures.before c.in_ok-first-in-Sum.ensures.next c.in_ok-terms_written-in-Sum.ensures.before

pub form_written-returns-in_ok-factors_written-in-Product-clause-before : goal.form_written-returns-in_ok-factors_written-in-Product-clause-before
form_written-returns-in_ok-factors_written-in-Product-clause-before t c =
    two-added c.product_of.result (naming_of c.args.names.now) c.args.draft.now.next (view_form c.args.form.now) (n_product (view c.get-in-Product.result.now) (view_factors c.as_slice-in-Product.result.now))
    (ap view_form c.in-Product.is ∙ view_form-Product c.in-Product.first c.in-Product.rest ∙ ap₂ (λ p q. n_product (view p) (view_factors q)) (sym c.get-in-Product.ensures) (sym c.as_slice-in-Product.ensures)) (view_stmts c.args.draft.now.statements)
    (before (naming_of c.args.names.now) c.args.draft.now.next (view c.get-in-Product.result.now)) (temps (view c.get-in-Product.result.now)) c.written-in-Product.new.draft.next (λ j. factors_before (naming_of c.args.names.now) j (view_factors c.as_slice-in-Product.result.now)) (view_stmts c.written-in-Product.new.draft.statements) (view_stmts c.factors_written.new.draft.statements)
    refl c.in_ok-first-in-Product.ensures.before c.in_ok-first-in-Product.ensures.next c.in_ok-factors_written-in-Product.ensures.before

pub form_written-returns-in_ok-value-in-If-clause-before : goal.form_written-returns-in_ok-value-in-If-clause-before
form_written-returns-in_ok-value-in-If-clause-before t c =
    if-added c.case_added.result (naming_of c.args.names.now) c.args.draft.now.next (view_form c.args.form.now) (n_if (view_branches c.as_slice-in-If.result.now) (view c.get-in-If.result.now))
    (ap view_form c.in-If.is ∙ view_form-If c.in-If.branches c.in-If.other ∙ ap₂ (λ bs e. n_if (view_branches bs) (view e)) (sym c.as_slice-in-If.ensures) (sym c.get-in-If.ensures)) (view_stmts c.args.draft.now.statements)
    (view_branches c.as_slice-in-If.result.now) (view c.get-in-If.result.now) c.in_ok-name-in-If.name c.own_name.new.draft.next c.branches_written.new.draft.next (st.view_branches c.in_ok-cases-in-If.cases) (view_expr c.in_ok-value-in-If.value)
    (view_stmts c.own_name.new.draft.statements) (view_stmts c.branches_written.new.draft.statements) (view_stmts c.written-in-If.new.draft.statements) (view_stmts c.case_added.new.draft.statements)
    refl (ap view_stmts c.in_ok-name-in-If.ensures.before) c.in_ok-name-in-If.ensures.name c.in_ok-name-in-If.ensures.next
    c.in_ok-cases-in-If.ensures.before c.in_ok-cases-in-If.ensures.next c.in_ok-cases-in-If.ensures.text c.in_ok-value-in-If.ensures.before c.in_ok-value-in-If.ensures.text
    c.case_added.ensures.before

-- ---- lists

pub list_written-loop-part-preserved : goal.list_written-loop-part-preserved
list_written-loop-part-preserved t c = record {
  text = list-text (naming_of c.args.names.now) c.args.parts.now c.loop-part.part-index c.part-item.result c.loop-part-test.true c.part-item.is c.loop-part.draft.next c.written.new.draft.next c.loop-part.all c.push.new.self c.into_inner.result
      (ap view_expr c.into_inner.ensures ∙ c.in_ok-text.ensures.text) c.in_ok-text.ensures.next c.in_ok-push.ensures.ok
      ∙ c.loop-part.invariant.text;
  next = list-next (naming_of c.args.names.now) c.args.parts.now c.loop-part.part-index c.part-item.result c.loop-part-test.true c.part-item.is c.loop-part.draft.next c.written.new.draft.next c.in_ok-text.ensures.next ∙ c.loop-part.invariant.next;
  before = list-before (naming_of c.args.names.now) c.args.parts.now c.loop-part.part-index c.part-item.result c.loop-part-test.true c.part-item.is c.loop-part.draft.next c.written.new.draft.next (view_stmts c.loop-part.draft.statements) (view_stmts c.written.new.draft.statements)
      c.in_ok-text.ensures.next c.in_ok-text.ensures.before
      ∙ c.loop-part.invariant.before;
}

pub list_written-returns-clause-before : goal.list_written-returns-clause-before
list_written-returns-clause-before t c = sym (list-before-end (naming_of c.args.names.now) c.args.parts.now c.loop-part.part-index c.loop-part-test.false c.loop-part.draft.next (view_stmts c.loop-part.draft.statements)) ∙ c.loop-part.invariant.before

pub terms_written-loop-part-preserved : goal.terms_written-loop-part-preserved
terms_written-loop-part-preserved t c = record {
  text = terms-text (naming_of c.args.names.now) c.args.parts.now c.loop-part.part-index c.part-item.result c.loop-part-test.true c.part-item.is c.loop-part.draft.next c.written.new.draft.next c.loop-part.all c.push.new.self c.into_inner.result
      (ap st.view_term c.into_inner.ensures ∙ c.in_ok-term.ensures ∙ ap (λ e. (c.part-item.result.minus, term e)) c.in_ok-text.ensures.text) c.in_ok-text.ensures.next c.in_ok-push.ensures.ok
      ∙ c.loop-part.invariant.text;
  next = terms-next (naming_of c.args.names.now) c.args.parts.now c.loop-part.part-index c.part-item.result c.loop-part-test.true c.part-item.is c.loop-part.draft.next c.written.new.draft.next c.in_ok-text.ensures.next ∙ c.loop-part.invariant.next;
  before = terms-before (naming_of c.args.names.now) c.args.parts.now c.loop-part.part-index c.part-item.result c.loop-part-test.true c.part-item.is c.loop-part.draft.next c.written.new.draft.next (view_stmts c.loop-part.draft.statements) (view_stmts c.written.new.draft.statements)
      c.in_ok-text.ensures.next c.in_ok-text.ensures.before
      ∙ c.loop-part.invariant.before;
}

pub terms_written-returns-clause-text : goal.terms_written-returns-clause-text
terms_written-returns-clause-text t c = sym (terms-text-end (naming_of c.args.names.now) c.args.parts.now c.loop-part.part-index c.loop-part-test.false c.loop-part.draft.next c.loop-part.all) ∙ c.loop-part.invariant.text

pub terms_written-returns-clause-before : goal.terms_written-returns-clause-before
terms_written-returns-clause-before t c = sym (terms-before-end (naming_of c.args.names.now) c.args.parts.now c.loop-part.part-index c.loop-part-test.false c.loop-part.draft.next (view_stmts c.loop-part.draft.statements)) ∙ c.loop-part.invariant.before

pub factors_written-loop-part-preserved : goal.factors_written-loop-part-preserved
factors_written-loop-part-preserved t c = record {
  text = factors-text (naming_of c.args.names.now) c.args.parts.now c.loop-part.part-index c.part-item.result c.loop-part-test.true c.part-item.is c.loop-part.draft.next c.written.new.draft.next c.loop-part.all c.push.new.self c.into_inner.result
      (ap st.view_factor c.into_inner.ensures ∙ c.in_ok-factor.ensures ∙ ap (λ e. (mul_of (view_mul c.part-item.result.op), factor e)) c.in_ok-text.ensures.text) c.in_ok-text.ensures.next c.in_ok-push.ensures.ok
      ∙ c.loop-part.invariant.text;
  next = factors-next (naming_of c.args.names.now) c.args.parts.now c.loop-part.part-index c.part-item.result c.loop-part-test.true c.part-item.is c.loop-part.draft.next c.written.new.draft.next c.in_ok-text.ensures.next ∙ c.loop-part.invariant.next;
  before = factors-before (naming_of c.args.names.now) c.args.parts.now c.loop-part.part-index c.part-item.result c.loop-part-test.true c.part-item.is c.loop-part.draft.next c.written.new.draft.next (view_stmts c.loop-part.draft.statements) (view_stmts c.written.new.draft.statements)
      c.in_ok-text.ensures.next c.in_ok-text.ensures.before
      ∙ c.loop-part.invariant.before;
}

pub factors_written-returns-clause-text : goal.factors_written-returns-clause-text
factors_written-returns-clause-text t c = sym (factors-text-end (naming_of c.args.names.now) c.args.parts.now c.loop-part.part-index c.loop-part-test.false c.loop-part.draft.next c.loop-part.all) ∙ c.loop-part.invariant.text

pub factors_written-returns-clause-before : goal.factors_written-returns-clause-before
factors_written-returns-clause-before t c = sym (factors-before-end (naming_of c.args.names.now) c.args.parts.now c.loop-part.part-index c.loop-part-test.false c.loop-part.draft.next (view_stmts c.loop-part.draft.statements)) ∙ c.loop-part.invariant.before

pub branches_written-loop-branch-preserved : goal.branches_written-loop-branch-preserved
branches_written-loop-branch-preserved t c = record {
  text = branches-text (naming_of c.args.names.now) c.args.name.now c.args.branches.now c.loop-branch.branch-index c.branch-item.result c.loop-branch-test.true c.branch-item.is c.loop-branch.draft.next c.written.new.draft.next c.written-in-loop-branch.new.draft.next c.loop-branch.all c.push.new.self c.into_inner.result
      (ap st.view_branch c.into_inner.ensures ∙ c.in_ok-made.ensures ∙ ap₂ (λ d e. (d, stms (assign c.args.name.now e) no_stms)) c.in_ok-cond.ensures.text c.in_ok-value.ensures.text)
      c.in_ok-cond.ensures.next c.in_ok-value.ensures.next c.in_ok-push.ensures.ok
      ∙ c.loop-branch.invariant.text;
  next = branches-next (naming_of c.args.names.now) c.args.name.now c.args.branches.now c.loop-branch.branch-index c.branch-item.result c.loop-branch-test.true c.branch-item.is c.loop-branch.draft.next c.written.new.draft.next c.written-in-loop-branch.new.draft.next c.in_ok-cond.ensures.next c.in_ok-value.ensures.next ∙ c.loop-branch.invariant.next;
  before = branches-before (naming_of c.args.names.now) c.args.name.now c.args.branches.now c.loop-branch.branch-index c.branch-item.result c.loop-branch-test.true c.branch-item.is c.loop-branch.draft.next c.written.new.draft.next c.written-in-loop-branch.new.draft.next
      (view_stmts c.loop-branch.draft.statements) (view_stmts c.written.new.draft.statements) (view_stmts c.written-in-loop-branch.new.draft.statements)
      c.in_ok-cond.ensures.next c.in_ok-value.ensures.next c.in_ok-cond.ensures.before c.in_ok-value.ensures.before
      ∙ c.loop-branch.invariant.before;
}

pub branches_written-returns-clause-text : goal.branches_written-returns-clause-text
branches_written-returns-clause-text t c = sym (branches-text-end (naming_of c.args.names.now) c.args.name.now c.args.branches.now c.loop-branch.branch-index c.loop-branch-test.false c.loop-branch.draft.next c.loop-branch.all) ∙ c.loop-branch.invariant.text

pub branches_written-returns-clause-before : goal.branches_written-returns-clause-before
branches_written-returns-clause-before t c =
    sym (branches-before-end (naming_of c.args.names.now) c.args.name.now c.args.branches.now c.loop-branch.branch-index c.loop-branch-test.false c.loop-branch.draft.next (view_stmts c.loop-branch.draft.statements)) ∙ c.loop-branch.invariant.before
