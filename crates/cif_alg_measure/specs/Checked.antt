-- The interval of an expression, told from those of its parts, or why it has none: the interval of a divisor has 0, or that of
-- a part leaves 64 bits.
use Rattle.std.specs.Prelude.{ℕ, pos, Bool, true, false, Option, Some, None, Result, Ok, Err, if◌then◌else◌}
use Rattle.cif_base.specs.Bounds.{Bounds, contains, neg_bounds, add_bounds, sub_bounds, mul_bounds, div_bounds, rem_bounds, abs_bounds, min_bounds, max_bounds, join_bounds, within_64, divided_by}
use Rattle.cif_system.specs.System.{Range}
use Rattle.cif_net_expr.specs.Tree.{MulOp, times, divided, modulo, NetExpr, net_expr, NetForm, n_truth, n_number, n_loc, n_var, n_input, n_alg, n_received, n_minus, n_plus, n_not, n_abs, n_min, n_max, n_sum, n_product, n_compare, n_and, n_or, n_implies, n_iff, n_if, NetExprs, no_net_exprs, net_exprs, NetTerms, no_net_terms, net_terms, NetFactors, no_net_factors, net_factors, NetBranches, no_net_branches, net_branches}
use Rattle.cif_net_model.specs.Interval.{point, truths, as_bounds, Ranges}
use Rattle.cif_net_model.specs.Exprs.{expr_at}
use Rattle.cif_alg_measure.specs.declared.error.WidthErr.{WidthErr}
use Rattle.cif_alg_measure.specs.declared.error.WidthErr.TheVariants.{ZeroDivisor, TooWide}

infixl 10 ◌>>=◌
abbrev pub ◌>>=◌ : {A B : Type 0} → Result A WidthErr → (A → Result B WidthErr) → Result B WidthErr
(Ok a) >>= f = f a
(Err x) >>= f = Err x

abbrev pub truth_bounds : Bounds
truth_bounds = as_bounds truths

-- the interval of the part that begins at `at`, where it is in 64 bits
abbrev pub fitted : (at : ℕ) → Option Bounds → Result Bounds WidthErr
fitted at None = Err (TooWide at)
fitted at (Some a) = Ok a

abbrev pub known : (at : ℕ) → Range → Result Bounds WidthErr
known at a = fitted at (within_64 (as_bounds a))

abbrev pub by_divisor : (at divisor_at : ℕ) → Bounds → Option Bounds → Result Bounds WidthErr
by_divisor at d b o = if contains b (pos 0) then Err (ZeroDivisor d) else fitted at o

abbrev pub added : (minus : Bool) → Bounds → Bounds → Bounds
added false a b = add_bounds a b
added true a b = sub_bounds a b

abbrev pub multiplied : MulOp → (at factor_at : ℕ) → Bounds → Bounds → Result Bounds WidthErr
multiplied times at d a b = fitted at (within_64 (mul_bounds a b))
multiplied divided at d a b = by_divisor at d b (divided_by b (within_64 (div_bounds a b)))
multiplied modulo at d a b = by_divisor at d b (divided_by b (within_64 (rem_bounds a b)))

abbrev mutual
  pub checked : Ranges → NetExpr → Result Bounds WidthErr
  checked g (net_expr f at) = checked_form g at f

  pub checked_form : Ranges → (at : ℕ) → NetForm → Result Bounds WidthErr
  checked_form g at (n_truth b) = Ok truth_bounds
  checked_form g at (n_number z) = known at (point z)
  checked_form g at (n_loc a p) = Ok truth_bounds
  checked_form g at (n_var k) = known at (g.vars k)
  checked_form g at (n_input k) = known at (g.inputs k)
  checked_form g at (n_alg k) = known at (g.algs k)
  checked_form g at n_received = known at g.received
  checked_form g at (n_minus e) = checked g e >>= λ a. fitted at (within_64 (neg_bounds a))
  checked_form g at (n_plus e) = checked g e
  checked_form g at (n_not e) = checked g e >>= λ a. Ok truth_bounds
  checked_form g at (n_abs e) = checked g e >>= λ a. fitted at (within_64 (abs_bounds a))
  checked_form g at (n_min a b) = checked g a >>= λ x. (checked g b >>= λ y. fitted at (within_64 (min_bounds x y)))
  checked_form g at (n_max a b) = checked g a >>= λ x. (checked g b >>= λ y. fitted at (within_64 (max_bounds x y)))
  checked_form g at (n_sum e es) = checked g e >>= λ a. checked_sum g at a es
  checked_form g at (n_product e es) = checked g e >>= λ a. checked_product g at a es
  checked_form g at (n_compare a op b) = checked g a >>= λ x. (checked g b >>= λ y. Ok truth_bounds)
  checked_form g at (n_and es) = checked_all g es
  checked_form g at (n_or es) = checked_all g es
  checked_form g at (n_implies a b) = checked g a >>= λ x. (checked g b >>= λ y. Ok truth_bounds)
  checked_form g at (n_iff a b) = checked g a >>= λ x. (checked g b >>= λ y. Ok truth_bounds)
  checked_form g at (n_if bs e) = checked g e >>= λ a. checked_cases g a bs

  -- of what is made of several expressions and is a boolean
  pub checked_all : Ranges → NetExprs → Result Bounds WidthErr
  checked_all g no_net_exprs = Ok truth_bounds
  checked_all g (net_exprs e es) = checked g e >>= λ a. checked_all g es

  -- from left to right, with the interval so far
  pub checked_sum : Ranges → (at : ℕ) → Bounds → NetTerms → Result Bounds WidthErr
  checked_sum g at a no_net_terms = Ok a
  checked_sum g at a (net_terms m e es) = checked g e >>= λ b. (fitted at (within_64 (added m a b)) >>= λ s. checked_sum g at s es)

  pub checked_product : Ranges → (at : ℕ) → Bounds → NetFactors → Result Bounds WidthErr
  checked_product g at a no_net_factors = Ok a
  checked_product g at a (net_factors op e es) = checked g e >>= λ b. (multiplied op at (expr_at e) a b >>= λ s. checked_product g at s es)

  -- with the join so far
  pub checked_cases : Ranges → Bounds → NetBranches → Result Bounds WidthErr
  checked_cases g a no_net_branches = Ok a
  checked_cases g a (net_branches c e bs) = checked g c >>= λ x. (checked g e >>= λ b. checked_cases g (join_bounds b a) bs)
