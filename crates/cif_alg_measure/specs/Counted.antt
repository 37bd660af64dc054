-- The measure of an expression, where each count stops on the way.
use Rattle.std.specs.Prelude.{ℕ}
use Rattle.cif_net_expr.specs.Tree.{NetExpr, net_expr, NetForm, n_alg, n_minus, n_plus, n_not, n_abs, n_min, n_max, n_sum, n_product, n_compare, n_and, n_or, n_implies, n_iff, n_if, NetExprs, no_net_exprs, net_exprs, NetTerms, no_net_terms, net_terms, NetFactors, no_net_factors, net_factors, NetBranches, no_net_branches, net_branches}
use Rattle.cif_net_model.specs.Counts.{one_form, no_form, beside, above}
use Rattle.cif_alg_measure.specs.declared.measures.Measure.{Measure}
use Rattle.cif_alg_measure.specs.Meanings.{as_measure, stopped_measure}

abbrev pub beside_stopped : Measure → Measure → Measure
beside_stopped a b = stopped_measure (beside (as_measure a) (as_measure b))

abbrev pub above_stopped : Measure → Measure
above_stopped a = stopped_measure (above (as_measure a))

-- where an algebraic variable counts as alg tells; a list counts from the front, after what was counted before it
abbrev mutual
  pub counted : (ℕ → Measure) → NetExpr → Measure
  counted alg (net_expr f at) = form_counted alg f

  pub form_counted : (ℕ → Measure) → NetForm → Measure
  form_counted alg (n_alg k) = alg k
  form_counted alg (n_minus e) = above_stopped (counted alg e)
  form_counted alg (n_plus e) = above_stopped (counted alg e)
  form_counted alg (n_not e) = above_stopped (counted alg e)
  form_counted alg (n_abs e) = above_stopped (counted alg e)
  form_counted alg (n_min a b) = above_stopped (beside_stopped (counted alg a) (counted alg b))
  form_counted alg (n_max a b) = above_stopped (beside_stopped (counted alg a) (counted alg b))
  form_counted alg (n_sum e es) = above_stopped (terms_counted alg (counted alg e) es)
  form_counted alg (n_product e es) = above_stopped (factors_counted alg (counted alg e) es)
  form_counted alg (n_compare a op b) = above_stopped (beside_stopped (counted alg a) (counted alg b))
  form_counted alg (n_and es) = above_stopped (list_counted alg (stopped_measure no_form) es)
  form_counted alg (n_or es) = above_stopped (list_counted alg (stopped_measure no_form) es)
  form_counted alg (n_implies a b) = above_stopped (beside_stopped (counted alg a) (counted alg b))
  form_counted alg (n_iff a b) = above_stopped (beside_stopped (counted alg a) (counted alg b))
  form_counted alg (n_if bs e) = above_stopped (branches_counted alg (counted alg e) bs)
  form_counted alg f = stopped_measure one_form

  pub list_counted : (ℕ → Measure) → Measure → NetExprs → Measure
  list_counted alg a no_net_exprs = a
  list_counted alg a (net_exprs e es) = list_counted alg (beside_stopped a (counted alg e)) es

  pub terms_counted : (ℕ → Measure) → Measure → NetTerms → Measure
  terms_counted alg a no_net_terms = a
  terms_counted alg a (net_terms m e es) = terms_counted alg (beside_stopped a (counted alg e)) es

  pub factors_counted : (ℕ → Measure) → Measure → NetFactors → Measure
  factors_counted alg a no_net_factors = a
  factors_counted alg a (net_factors op e es) = factors_counted alg (beside_stopped a (counted alg e)) es

  pub branches_counted : (ℕ → Measure) → Measure → NetBranches → Measure
  branches_counted alg a no_net_branches = a
  branches_counted alg a (net_branches c e bs) = branches_counted alg (beside_stopped (beside_stopped a (counted alg c)) (counted alg e)) bs
