-- Helper of the code: whether an input is named.
use Rattle.std.specs.Prelude.{Bool, true, false, ◌||◌}
use Rattle.cif_net_expr.specs.Tree.{NetExpr, net_expr, NetForm, n_truth, n_number, n_loc, n_var, n_input, n_alg, n_received, n_minus, n_plus, n_not, n_abs, n_min, n_max, n_sum, n_product, n_compare, n_and, n_or, n_implies, n_iff, n_if, NetExprs, no_net_exprs, net_exprs, NetTerms, no_net_terms, net_terms, NetFactors, no_net_factors, net_factors, NetBranches, no_net_branches, net_branches}

abbrev mutual
  pub has_input : NetExpr → Bool
  has_input (net_expr f at) = form_has f

  pub form_has : NetForm → Bool
  form_has (n_truth b) = false
  form_has (n_number z) = false
  form_has (n_loc a k) = false
  form_has (n_var k) = false
  form_has (n_input k) = true
  form_has (n_alg k) = false
  form_has n_received = false
  form_has (n_minus e) = has_input e
  form_has (n_plus e) = has_input e
  form_has (n_not e) = has_input e
  form_has (n_abs e) = has_input e
  form_has (n_min a b) = has_input a || has_input b
  form_has (n_max a b) = has_input a || has_input b
  form_has (n_sum e es) = has_input e || terms_have es
  form_has (n_product e es) = has_input e || factors_have es
  form_has (n_compare a op b) = has_input a || has_input b
  form_has (n_and es) = exprs_have es
  form_has (n_or es) = exprs_have es
  form_has (n_implies a b) = has_input a || has_input b
  form_has (n_iff a b) = has_input a || has_input b
  form_has (n_if bs e) = branches_have bs || has_input e

  pub terms_have : NetTerms → Bool
  terms_have no_net_terms = false
  terms_have (net_terms m e es) = has_input e || terms_have es

  pub factors_have : NetFactors → Bool
  factors_have no_net_factors = false
  factors_have (net_factors op e es) = has_input e || factors_have es

  pub exprs_have : NetExprs → Bool
  exprs_have no_net_exprs = false
  exprs_have (net_exprs e es) = has_input e || exprs_have es

  pub branches_have : NetBranches → Bool
  branches_have no_net_branches = false
  branches_have (net_branches c e bs) = has_input c || (has_input e || branches_have bs)
