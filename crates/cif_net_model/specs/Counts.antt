-- The size of an expression, the number of its forms, and its depth, with algebraic variables unfolded; and what all
-- choices of a net weigh.
use Rattle.std.specs.Prelude.{ℕ, zero, suc, ◌+◌, ◌*◌, max, min, nat_lt, Bool, ◌||◌, List, [], ◌∷◌, map, length, flat_map, filter, sum_by, nat_eq}
use Rattle.cif_system.specs.Step.{Choice}
use Rattle.cif_system.specs.Choices.{choices, event_numbers, product_by}
use Rattle.cif_net_expr.specs.Tree.{NetExpr, net_expr, NetForm, n_alg, n_minus, n_plus, n_not, n_abs, n_min, n_max, n_sum, n_product, n_compare, n_and, n_or, n_implies, n_iff, n_if, NetExprs, no_net_exprs, net_exprs, NetTerms, no_net_terms, net_terms, NetFactors, no_net_factors, net_factors, NetBranches, no_net_branches, net_branches}
use Rattle.cif_net_model.specs.Net.{one_value, by_loc, NetAlg, NetExclusion, NetInvariant, Net}
use Rattle.cif_net_model.specs.Unfolding.{at_or, unfolded}
use Rattle.cif_net_model.specs.Meaning.{system_of_net}
use Rattle.cif_net_model.specs.Exprs.{edge_exprs, all_exprs}
use Rattle.cif_net_model.specs.Listing.{moves_of, edges_taken}

pub record Measure : Type 0 where
  pub size : ℕ
  pub depth : ℕ

abbrev pub one_form : Measure
one_form = record { size = 1; depth = 0 }

abbrev pub no_form : Measure
no_form = record { size = 0; depth = 0 }

-- side by side
abbrev pub beside : Measure → Measure → Measure
beside a b = record { size = a.size + b.size; depth = max a.depth b.depth }

-- with one form above
abbrev pub above : Measure → Measure
above a = record { size = a.size + 1; depth = a.depth + 1 }

-- where an algebraic variable counts as its definition
abbrev mutual
  pub measure_by : (ℕ → Measure) → NetExpr → Measure
  measure_by alg (net_expr f at) = form_measure alg f

  pub form_measure : (ℕ → Measure) → NetForm → Measure
  form_measure alg (n_alg k) = alg k
  form_measure alg (n_minus e) = above (measure_by alg e)
  form_measure alg (n_plus e) = above (measure_by alg e)
  form_measure alg (n_not e) = above (measure_by alg e)
  form_measure alg (n_abs e) = above (measure_by alg e)
  form_measure alg (n_min a b) = above (beside (measure_by alg a) (measure_by alg b))
  form_measure alg (n_max a b) = above (beside (measure_by alg a) (measure_by alg b))
  form_measure alg (n_sum e es) = above (beside (measure_by alg e) (terms_measure alg es))
  form_measure alg (n_product e es) = above (beside (measure_by alg e) (factors_measure alg es))
  form_measure alg (n_compare a op b) = above (beside (measure_by alg a) (measure_by alg b))
  form_measure alg (n_and es) = above (list_measure alg es)
  form_measure alg (n_or es) = above (list_measure alg es)
  form_measure alg (n_implies a b) = above (beside (measure_by alg a) (measure_by alg b))
  form_measure alg (n_iff a b) = above (beside (measure_by alg a) (measure_by alg b))
  form_measure alg (n_if bs e) = above (beside (branches_measure alg bs) (measure_by alg e))
  form_measure alg f = one_form

  pub terms_measure : (ℕ → Measure) → NetTerms → Measure
  terms_measure alg no_net_terms = no_form
  terms_measure alg (net_terms m e es) = beside (measure_by alg e) (terms_measure alg es)

  pub factors_measure : (ℕ → Measure) → NetFactors → Measure
  factors_measure alg no_net_factors = no_form
  factors_measure alg (net_factors op e es) = beside (measure_by alg e) (factors_measure alg es)

  pub list_measure : (ℕ → Measure) → NetExprs → Measure
  list_measure alg no_net_exprs = no_form
  list_measure alg (net_exprs e es) = beside (measure_by alg e) (list_measure alg es)

  pub branches_measure : (ℕ → Measure) → NetBranches → Measure
  branches_measure alg no_net_branches = no_form
  branches_measure alg (net_branches c e bs) = beside (measure_by alg c) (beside (measure_by alg e) (branches_measure alg bs))

abbrev pub all_beside : List Measure → Measure
all_beside [] = no_form
all_beside (a ∷ rest) = beside a (all_beside rest)

-- n definitions by location are one `if` with n - 1 location tests
abbrev pub by_location : ℕ → Measure → Measure
by_location zero a = a
by_location (suc zero) a = a
by_location (suc (suc n)) a = record { size = a.size + suc (suc n); depth = a.depth + 1 }

abbrev pub alg_measure : (ℕ → Measure) → NetAlg → Measure
alg_measure alg a = elim a.value [ one_value e ↦ measure_by alg e | by_loc k es ↦ by_location (length es) (all_beside (map (measure_by alg) es)) ]

abbrev pub alg_measures : Net → List Measure
alg_measures n = unfolded no_form alg_measure n.algs (length n.algs)

abbrev pub measure : Net → NetExpr → Measure
measure n e = measure_by (at_or no_form (alg_measures n)) e

-- ---- the nodes of all choices

abbrev pub sizes : List Measure → ℕ
sizes ms = sum_by (λ (m : Measure). m.size) ms

abbrev pub size_of : Net → List NetExpr → ℕ
size_of n es = sum_by (λ e. (measure n e).size) es

abbrev pub exclusions_of : Net → ℕ → List NetExpr
exclusions_of n e = map (λ (x : NetExclusion). x.pred) (filter (λ (x : NetExclusion). nat_eq x.event e) n.exclusions)

abbrev pub invariant_exprs : Net → List NetExpr
invariant_exprs n = map (λ (i : NetInvariant). i.pred) n.invariants

-- 1, the parties, the expressions of the edges, the exclusions of the event and all invariants
abbrev pub choice_nodes : Net → ℕ → Choice → ℕ
choice_nodes n e ch =
    1 + length (moves_of n e ch) + size_of n (flat_map edge_exprs (edges_taken n ch)) + size_of n (exclusions_of n e) + size_of n (invariant_exprs n)

abbrev pub event_nodes : Net → ℕ → ℕ
event_nodes n e = sum_by (choice_nodes n e) (choices (system_of_net n) e)

abbrev pub nodes : Net → ℕ
nodes n = sum_by (event_nodes n) (event_numbers (system_of_net n)) + sizes (alg_measures n)

-- What all lists of a product weigh together, where w weighs an element: told without listing them.
abbrev pub weight : {A : Type 0} → (A → ℕ) → List (List A) → ℕ
weight w [] = 0
weight w (xs ∷ xss) = sum_by w xs * product_by length xss + length xs * weight w xss

-- ---- depth

-- a definition by location is one deeper than its expressions, where there are two or more
abbrev pub depth : Net → ℕ
depth n = max (all_beside (map (measure n) (all_exprs n))).depth (all_beside (alg_measures n)).depth

-- ---- limits

-- a count stops one past its limit
abbrev pub stopped : (limit : ℕ) → ℕ → ℕ
stopped limit x = min x (suc limit)

abbrev pub most_nodes : ℕ
most_nodes = 1000000

abbrev pub most_depth : ℕ
most_depth = 100

abbrev pub most_choices : ℕ
most_choices = 16384

abbrev pub is_too_large : Net → Bool
is_too_large n = nat_lt most_nodes (nodes n) || nat_lt most_depth (depth n)
