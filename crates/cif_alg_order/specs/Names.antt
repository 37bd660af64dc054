-- Helper of the code: the algebraic variables that expressions name, put together from those of their parts, in the order of the text.
use Rattle.std.specs.Prelude.{ℕ, List, [], ◌∷◌, ◌++◌, flat_map}
use Rattle.cif_net_expr.specs.Tree.{NetExpr, net_expr, NetForm, n_alg, n_minus, n_plus, n_not, n_abs, n_min, n_max, n_sum, n_product, n_compare, n_and, n_or, n_implies, n_iff, n_if, NetExprs, no_net_exprs, net_exprs, NetTerms, no_net_terms, net_terms, NetFactors, no_net_factors, net_factors, NetBranches, no_net_branches, net_branches}
use Rattle.cif_net_model.specs.Net.{NetAlg}
use Rattle.cif_net_model.specs.Exprs.{alg_exprs}

abbrev mutual
  pub algs_in : NetExpr → List ℕ
  algs_in (net_expr f at) = form_algs f

  pub form_algs : NetForm → List ℕ
  form_algs (n_alg k) = k ∷ []
  form_algs (n_minus e) = algs_in e
  form_algs (n_plus e) = algs_in e
  form_algs (n_not e) = algs_in e
  form_algs (n_abs e) = algs_in e
  form_algs (n_min a b) = algs_in a ++ algs_in b
  form_algs (n_max a b) = algs_in a ++ algs_in b
  form_algs (n_sum e es) = algs_in e ++ term_algs es
  form_algs (n_product e es) = algs_in e ++ factor_algs es
  form_algs (n_compare a op b) = algs_in a ++ algs_in b
  form_algs (n_and es) = list_algs es
  form_algs (n_or es) = list_algs es
  form_algs (n_implies a b) = algs_in a ++ algs_in b
  form_algs (n_iff a b) = algs_in a ++ algs_in b
  form_algs (n_if bs e) = branch_algs bs ++ algs_in e
  form_algs f = []

  pub term_algs : NetTerms → List ℕ
  term_algs no_net_terms = []
  term_algs (net_terms m e es) = algs_in e ++ term_algs es

  pub factor_algs : NetFactors → List ℕ
  factor_algs no_net_factors = []
  factor_algs (net_factors op e es) = algs_in e ++ factor_algs es

  pub list_algs : NetExprs → List ℕ
  list_algs no_net_exprs = []
  list_algs (net_exprs e es) = algs_in e ++ list_algs es

  pub branch_algs : NetBranches → List ℕ
  branch_algs no_net_branches = []
  branch_algs (net_branches c e bs) = algs_in c ++ (algs_in e ++ branch_algs bs)

-- those that the definitions of an algebraic variable name
abbrev pub algs_of : NetAlg → List ℕ
algs_of a = flat_map algs_in (alg_exprs a)
