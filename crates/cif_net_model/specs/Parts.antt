-- The parts of an expression but those that an operator with a boolean result makes. Sums and products go from left to
-- right: what is reached at each of their operands is a part, with the place of the whole.
use Rattle.std.specs.Prelude.{ℕ, pos, Bool, not, List, [], ◌∷◌, ◌++◌, flat_map}
use Rattle.std.specs.List.{list_all}
use Rattle.cif_base.specs.Bounds as bounds
use Rattle.cif_system.specs.System.{Range, in_range}
use Rattle.cif_net_expr.specs.Tree.{MulOp, times, divided, modulo, NetExpr, net_expr, NetForm, n_minus, n_plus, n_not, n_abs, n_min, n_max, n_sum, n_product, n_compare, n_and, n_or, n_implies, n_iff, n_if, NetExprs, no_net_exprs, net_exprs, NetTerms, no_net_terms, net_terms, NetFactors, no_net_factors, net_factors, NetBranches, no_net_branches, net_branches}
use Rattle.cif_net_model.specs.Interval.{as_bounds, Ranges, range_of}

abbrev pub add_term : NetTerms → (minus : Bool) → NetExpr → NetTerms
add_term no_net_terms m e = net_terms m e no_net_terms
add_term (net_terms n x xs) m e = net_terms n x (add_term xs m e)

abbrev pub add_factor : NetFactors → MulOp → NetExpr → NetFactors
add_factor no_net_factors op e = net_factors op e no_net_factors
add_factor (net_factors o x xs) op e = net_factors o x (add_factor xs op e)

abbrev mutual
  pub parts : NetExpr → List NetExpr
  parts (net_expr f at) = form_parts at f

  pub form_parts : ℕ → NetForm → List NetExpr
  form_parts at (n_minus e) = net_expr (n_minus e) at ∷ parts e
  form_parts at (n_plus e) = net_expr (n_plus e) at ∷ parts e
  form_parts at (n_not e) = parts e
  form_parts at (n_abs e) = net_expr (n_abs e) at ∷ parts e
  form_parts at (n_min a b) = net_expr (n_min a b) at ∷ (parts a ++ parts b)
  form_parts at (n_max a b) = net_expr (n_max a b) at ∷ (parts a ++ parts b)
  form_parts at (n_sum e es) = parts e ++ sum_parts at e no_net_terms es
  form_parts at (n_product e es) = parts e ++ product_parts at e no_net_factors es
  form_parts at (n_compare a op b) = parts a ++ parts b
  form_parts at (n_and es) = list_parts es
  form_parts at (n_or es) = list_parts es
  form_parts at (n_implies a b) = parts a ++ parts b
  form_parts at (n_iff a b) = parts a ++ parts b
  form_parts at (n_if bs e) = net_expr (n_if bs e) at ∷ (branch_parts bs ++ parts e)
  form_parts at f = net_expr f at ∷ []

  pub list_parts : NetExprs → List NetExpr
  list_parts no_net_exprs = []
  list_parts (net_exprs e es) = parts e ++ list_parts es

  pub branch_parts : NetBranches → List NetExpr
  branch_parts no_net_branches = []
  branch_parts (net_branches c e bs) = parts c ++ (parts e ++ branch_parts bs)

  -- of the terms, those before them being given
  pub sum_parts : ℕ → NetExpr → NetTerms → NetTerms → List NetExpr
  sum_parts at first before no_net_terms = []
  sum_parts at first before (net_terms m e es) =
      net_expr (n_sum first (add_term before m e)) at ∷ (parts e ++ sum_parts at first (add_term before m e) es)

  pub product_parts : ℕ → NetExpr → NetFactors → NetFactors → List NetExpr
  product_parts at first before no_net_factors = []
  product_parts at first before (net_factors op e es) =
      net_expr (n_product first (add_factor before op e)) at ∷ (parts e ++ product_parts at first (add_factor before op e) es)

-- the divisors of a product
abbrev pub factor_divisors : NetFactors → List NetExpr
factor_divisors no_net_factors = []
factor_divisors (net_factors times e es) = factor_divisors es
factor_divisors (net_factors divided e es) = e ∷ factor_divisors es
factor_divisors (net_factors modulo e es) = e ∷ factor_divisors es

abbrev pub own_divisors : NetExpr → List NetExpr
own_divisors (net_expr f at) = elim f [ n_product e es ↦ factor_divisors es | _ ↦ [] ]

-- the divisors anywhere in an expression
abbrev pub divisors : NetExpr → List NetExpr
divisors e = flat_map own_divisors (parts e)

-- both bounds are in 64 bits
abbrev pub is_narrow : Range → Bool
is_narrow a = bounds.is_narrow (as_bounds a)

-- the intervals of its own divisors have no 0
abbrev pub part_divides : Ranges → NetExpr → Bool
part_divides g p = list_all (λ d. not (in_range (range_of g d) (pos 0))) (own_divisors p)

-- no divisor's interval has 0
abbrev pub divides : Ranges → NetExpr → Bool
divides g e = list_all (part_divides g) (parts e)

-- the interval of each part is in 64 bits
abbrev pub is_narrow_expr : Ranges → NetExpr → Bool
is_narrow_expr g e = list_all (λ p. is_narrow (range_of g p)) (parts e)
