-- Whether an input is named, as told along the forms of an expression.
use Rattle.std.proofs.Common.{◌≡◌, Bool, ◌||◌, ◌++◌, refl, sym, ◌∙◌}
use Rattle.std.specs.Prelude.{List}
use Rattle.std.specs.List.{list_any}
use Rattle.std.proofs.lemmas.List.Folds.{list_any-append}
use Rattle.cif_net_expr.specs.Tree.{NetExpr, net_expr, NetForm, n_truth, n_number, n_loc, n_var, n_input, n_alg, n_received, n_minus, n_plus, n_not, n_abs, n_min, n_max, n_sum, n_product, n_compare, n_and, n_or, n_implies, n_iff, n_if, NetExprs, no_net_exprs, net_exprs, NetTerms, no_net_terms, net_terms, NetFactors, no_net_factors, net_factors, NetBranches, no_net_branches, net_branches}
use Rattle.cif_net_model.specs.Reads.{Read, is_input, names_in, form_names, term_names, factor_names, list_names, branch_names}
use Rattle.cif_net_model.proofs.ValueLaws.{ap-two}
use Rattle.cif_value.specs.Inputs.{has_input, form_has, terms_have, factors_have, exprs_have, branches_have}

either : (a b : Bool) (xs ys : List Read) → a ≡ list_any is_input xs → b ≡ list_any is_input ys → (a || b) ≡ list_any is_input (xs ++ ys)
either a b xs ys h k = ap-two (λ x y. x || y) h k ∙ sym (list_any-append is_input xs ys)

mutual
  pub input_named : (e : NetExpr) → has_input e ≡ list_any is_input (names_in e)
  input_named (net_expr f at) = form-named f

  form-named : (f : NetForm) → form_has f ≡ list_any is_input (form_names f)
  form-named (n_truth b) = refl
  form-named (n_number z) = refl
  form-named (n_loc a k) = refl
  form-named (n_var k) = refl
  form-named (n_input k) = refl
  form-named (n_alg k) = refl
  form-named n_received = refl
  form-named (n_minus e) = input_named e
  form-named (n_plus e) = input_named e
  form-named (n_not e) = input_named e
  form-named (n_abs e) = input_named e
  form-named (n_min a b) = either (has_input a) (has_input b) (names_in a) (names_in b) (input_named a) (input_named b)
  form-named (n_max a b) = either (has_input a) (has_input b) (names_in a) (names_in b) (input_named a) (input_named b)
  form-named (n_sum e es) = either (has_input e) (terms_have es) (names_in e) (term_names es) (input_named e) (terms-named es)
  form-named (n_product e es) = either (has_input e) (factors_have es) (names_in e) (factor_names es) (input_named e) (factors-named es)
  form-named (n_compare a op b) = either (has_input a) (has_input b) (names_in a) (names_in b) (input_named a) (input_named b)
  form-named (n_and es) = exprs-named es
  form-named (n_or es) = exprs-named es
  form-named (n_implies a b) = either (has_input a) (has_input b) (names_in a) (names_in b) (input_named a) (input_named b)
  form-named (n_iff a b) = either (has_input a) (has_input b) (names_in a) (names_in b) (input_named a) (input_named b)
  form-named (n_if bs e) = either (branches_have bs) (has_input e) (branch_names bs) (names_in e) (branches-named bs) (input_named e)

  terms-named : (es : NetTerms) → terms_have es ≡ list_any is_input (term_names es)
  terms-named no_net_terms = refl
  terms-named (net_terms m e es) = either (has_input e) (terms_have es) (names_in e) (term_names es) (input_named e) (terms-named es)

  factors-named : (es : NetFactors) → factors_have es ≡ list_any is_input (factor_names es)
  factors-named no_net_factors = refl
  factors-named (net_factors op e es) = either (has_input e) (factors_have es) (names_in e) (factor_names es) (input_named e) (factors-named es)

  exprs-named : (es : NetExprs) → exprs_have es ≡ list_any is_input (list_names es)
  exprs-named no_net_exprs = refl
  exprs-named (net_exprs e es) = either (has_input e) (exprs_have es) (names_in e) (list_names es) (input_named e) (exprs-named es)

  branches-named : (bs : NetBranches) → branches_have bs ≡ list_any is_input (branch_names bs)
  branches-named no_net_branches = refl
  branches-named (net_branches c e bs) =
      either (has_input c) (has_input e || branches_have bs) (names_in c) (names_in e ++ branch_names bs) (input_named c)
      (either (has_input e) (branches_have bs) (names_in e) (branch_names bs) (input_named e) (branches-named bs))
