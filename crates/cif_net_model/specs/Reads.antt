-- What an expression reads: what it names, and what it depends on with algebraic variables unfolded.
use Rattle.std.specs.Prelude.{ℕ, Bool, true, false, List, [], ◌∷◌, ◌++◌, length, flat_map}
use Rattle.std.specs.List.{list_all, list_any}
use Rattle.cif_net_expr.specs.Tree.{NetExpr, net_expr, NetForm, n_truth, n_number, n_loc, n_var, n_input, n_alg, n_received, n_minus, n_plus, n_not, n_abs, n_min, n_max, n_sum, n_product, n_compare, n_and, n_or, n_implies, n_iff, n_if, NetExprs, no_net_exprs, net_exprs, NetTerms, no_net_terms, net_terms, NetFactors, no_net_factors, net_factors, NetBranches, no_net_branches, net_branches}
use Rattle.cif_net_model.specs.Net.{one_value, by_loc, NetAlg, Net}
use Rattle.cif_net_model.specs.Unfolding.{at_or, unfolded}

-- a variable, an input or an algebraic variable, the place of an automaton, or the received value
pub data Read : Type 0 where
  a_var an_input an_alg a_place : ℕ → Read
  the_received : Read

abbrev mutual
  pub names_in : NetExpr → List Read
  names_in (net_expr f at) = form_names f

  pub form_names : NetForm → List Read
  form_names (n_truth b) = []
  form_names (n_number z) = []
  form_names (n_loc a p) = a_place a ∷ []
  form_names (n_var k) = a_var k ∷ []
  form_names (n_input k) = an_input k ∷ []
  form_names (n_alg k) = an_alg k ∷ []
  form_names n_received = the_received ∷ []
  form_names (n_minus e) = names_in e
  form_names (n_plus e) = names_in e
  form_names (n_not e) = names_in e
  form_names (n_abs e) = names_in e
  form_names (n_min a b) = names_in a ++ names_in b
  form_names (n_max a b) = names_in a ++ names_in b
  form_names (n_sum e es) = names_in e ++ term_names es
  form_names (n_product e es) = names_in e ++ factor_names es
  form_names (n_compare a op b) = names_in a ++ names_in b
  form_names (n_and es) = list_names es
  form_names (n_or es) = list_names es
  form_names (n_implies a b) = names_in a ++ names_in b
  form_names (n_iff a b) = names_in a ++ names_in b
  form_names (n_if bs e) = branch_names bs ++ names_in e

  pub term_names : NetTerms → List Read
  term_names no_net_terms = []
  term_names (net_terms m e es) = names_in e ++ term_names es

  pub factor_names : NetFactors → List Read
  factor_names no_net_factors = []
  factor_names (net_factors op e es) = names_in e ++ factor_names es

  pub list_names : NetExprs → List Read
  list_names no_net_exprs = []
  list_names (net_exprs e es) = names_in e ++ list_names es

  pub branch_names : NetBranches → List Read
  branch_names no_net_branches = []
  branch_names (net_branches c e bs) = names_in c ++ (names_in e ++ branch_names bs)

-- no variable, location or received value is named
abbrev pub is_fixed : NetExpr → Bool
is_fixed e = elim (names_in e) [ [] ↦ true | _ ↦ false ]

-- of algebraic variables only those that pass are named
abbrev pub alg_passes : (ℕ → Bool) → Read → Bool
alg_passes p (an_alg k) = p k
alg_passes p x = true

abbrev pub names_only : (ℕ → Bool) → NetExpr → Bool
names_only p e = list_all (alg_passes p) (names_in e)

abbrev pub names_no_alg : NetExpr → Bool
names_no_alg e = names_only (λ k. false) e

-- ---- with algebraic variables unfolded

-- a name, and of an algebraic variable what it reads
abbrev pub read_of : (ℕ → List Read) → Read → List Read
read_of algs (an_alg k) = algs k
read_of algs x = x ∷ []

abbrev pub reads_by : (ℕ → List Read) → NetExpr → List Read
reads_by algs e = flat_map (read_of algs) (names_in e)

-- the automaton by whose location it is decided, and what its definitions read
abbrev pub alg_reads : (ℕ → List Read) → NetAlg → List Read
alg_reads algs a = elim a.value [ one_value e ↦ reads_by algs e | by_loc k es ↦ a_place k ∷ flat_map (reads_by algs) es ]

abbrev pub reads : Net → NetExpr → List Read
reads n e = reads_by (at_or [] (unfolded [] alg_reads n.algs (length n.algs))) e

abbrev pub is_input : Read → Bool
is_input (an_input k) = true
is_input _ = false

abbrev pub reads_input : Net → NetExpr → Bool
reads_input n e = list_any is_input (reads n e)
