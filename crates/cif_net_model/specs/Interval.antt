-- The interval of an expression: numbers between which its value lies, told from the intervals of what it names (R. E.
-- Moore, Interval Analysis, 1966).
use Rattle.std.specs.Prelude.{ℕ, ℤ, pos, Bool, true, false, List, [], ◌∷◌, map, length, Option, Some, None, slice_get}
use Rattle.cif_base.specs.Bounds.{Bounds, neg_bounds, add_bounds, sub_bounds, mul_bounds, div_bounds, rem_bounds, abs_bounds, min_bounds, max_bounds, join_bounds}
use Rattle.cif_system.specs.System.{Range}
use Rattle.cif_net_expr.specs.Tree.{MulOp, times, divided, modulo, NetExpr, net_expr, NetForm, n_number, n_var, n_input, n_alg, n_received, n_minus, n_plus, n_abs, n_min, n_max, n_sum, n_product, n_if, NetTerms, no_net_terms, net_terms, NetFactors, no_net_factors, net_factors, NetBranches, no_net_branches, net_branches}
use Rattle.cif_net_model.specs.Net.{NetStored, one_value, by_loc, NetAlg, Net}
use Rattle.cif_net_model.specs.Unfolding.{at_or, unfolded}
use Rattle.cif_net_model.specs.Meaning.{type_range}

abbrev pub between : ℤ → ℤ → Range
between a b = record { lo = a; hi = b }

abbrev pub point : ℤ → Range
point z = between z z

-- that of booleans
abbrev pub truths : Range
truths = between (pos 0) (pos 1)

-- the bounds of a range, and back
abbrev pub as_bounds : Range → Bounds
as_bounds a = record { lo = a.lo; hi = a.hi }

abbrev pub as_range : Bounds → Range
as_range b = between b.lo b.hi

abbrev pub joined : Range → Range → Range
joined a b = as_range (join_bounds (as_bounds a) (as_bounds b))

abbrev pub neg_range : Range → Range
neg_range a = as_range (neg_bounds (as_bounds a))

abbrev pub add_ranges : (minus : Bool) → Range → Range → Range
add_ranges false a b = as_range (add_bounds (as_bounds a) (as_bounds b))
add_ranges true a b = as_range (sub_bounds (as_bounds a) (as_bounds b))

abbrev pub mul_ranges : MulOp → Range → Range → Range
mul_ranges times a b = as_range (mul_bounds (as_bounds a) (as_bounds b))
mul_ranges divided a b = as_range (div_bounds (as_bounds a) (as_bounds b))
mul_ranges modulo a b = as_range (rem_bounds (as_bounds a) (as_bounds b))

abbrev pub abs_range : Range → Range
abs_range a = as_range (abs_bounds (as_bounds a))

abbrev pub min_ranges : Range → Range → Range
min_ranges a b = as_range (min_bounds (as_bounds a) (as_bounds b))

abbrev pub max_ranges : Range → Range → Range
max_ranges a b = as_range (max_bounds (as_bounds a) (as_bounds b))

-- the ranges of variables, inputs, algebraic variables and the received value
pub record Ranges : Type 0 where
  pub vars : ℕ → Range
  pub inputs : ℕ → Range
  pub algs : ℕ → Range
  pub received : Range

abbrev mutual
  pub range_of : Ranges → NetExpr → Range
  range_of g (net_expr f at) = form_range g f

  pub form_range : Ranges → NetForm → Range
  form_range g (n_number z) = point z
  form_range g (n_var k) = g.vars k
  form_range g (n_input k) = g.inputs k
  form_range g (n_alg k) = g.algs k
  form_range g n_received = g.received
  form_range g (n_minus e) = neg_range (range_of g e)
  form_range g (n_plus e) = range_of g e
  form_range g (n_abs e) = abs_range (range_of g e)
  form_range g (n_min a b) = min_ranges (range_of g a) (range_of g b)
  form_range g (n_max a b) = max_ranges (range_of g a) (range_of g b)
  form_range g (n_sum e es) = sum_range g (range_of g e) es
  form_range g (n_product e es) = product_range g (range_of g e) es
  form_range g (n_if bs e) = cases_range g (range_of g e) bs
  form_range g _ = truths

  -- from left to right
  pub sum_range : Ranges → Range → NetTerms → Range
  sum_range g a no_net_terms = a
  sum_range g a (net_terms m e es) = sum_range g (add_ranges m a (range_of g e)) es

  pub product_range : Ranges → Range → NetFactors → Range
  product_range g a no_net_factors = a
  product_range g a (net_factors op e es) = product_range g (mul_ranges op a (range_of g e)) es

  -- the join of the branches
  pub cases_range : Ranges → Range → NetBranches → Range
  cases_range g a no_net_branches = a
  cases_range g a (net_branches c e bs) = joined (range_of g e) (cases_range g a bs)

abbrev pub join_all : List Range → Range
join_all [] = point (pos 0)
join_all (a ∷ []) = a
join_all (a ∷ b ∷ rest) = joined a (join_all (b ∷ rest))

-- joined over the locations
abbrev pub alg_range : (NetExpr → Range) → NetAlg → Range
alg_range f a = elim a.value [ one_value e ↦ f e | by_loc k es ↦ join_all (map f es) ]

abbrev pub stored_range : Option NetStored → Range
stored_range None = point (pos 0)
stored_range (Some v) = type_range v.type_of

abbrev pub with_algs : Ranges → (ℕ → Range) → Ranges
with_algs g algs = record g { algs = algs }

-- the ranges of algebraic variables, with m unfoldings of them in one another
abbrev pub alg_ranges : Net → Ranges → ℕ → List Range
alg_ranges n g m = unfolded (point (pos 0)) (λ algs a. alg_range (range_of (with_algs g algs)) a) n.algs m

abbrev pub unfolded_ranges : Net → Ranges → Ranges
unfolded_ranges n g = with_algs g (at_or (point (pos 0)) (alg_ranges n g (length n.algs)))

-- the declared ranges, with that of the received value
abbrev pub declared_ranges : Net → Range → Ranges
declared_ranges n r = unfolded_ranges n (record { vars = λ k. stored_range (slice_get n.vars k); inputs = λ k. stored_range (slice_get n.inputs k); algs = λ k. point (pos 0); received = r })

abbrev pub interval : Net → Range → NetExpr → Range
interval n r e = range_of (declared_ranges n r) e
