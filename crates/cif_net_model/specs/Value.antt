-- The value of an expression of a net in a state: a whole number, of which 0 and 1 are the booleans (CIF 3 language
-- reference, "Expressions").
use Rattle.std.specs.Prelude.{ℕ, ℤ, pos, neg_ℤ, ◌+ℤ◌, ◌-ℤ◌, ◌*ℤ◌, nat_abs, int_lt, int_le, int_div, int_rem, Bool, true, false, not, ◌&&◌, ◌||◌, nat_eq, slice_index_or, if◌then◌else◌}
use Rattle.std.specs.Int.{int_min, int_max}
use Rattle.std.specs.Ordering.{int_eq}
use Rattle.cif_system.specs.System.{State}
use Rattle.cif_net_expr.specs.Tree.{CmpOp, eq, ne, lt, le, gt, ge, MulOp, times, divided, modulo, NetExpr, net_expr, NetForm, n_truth, n_number, n_loc, n_var, n_input, n_alg, n_received, n_minus, n_plus, n_not, n_abs, n_min, n_max, n_sum, n_product, n_compare, n_and, n_or, n_implies, n_iff, n_if, NetExprs, no_net_exprs, net_exprs, NetTerms, no_net_terms, net_terms, NetFactors, no_net_factors, net_factors, NetBranches, no_net_branches, net_branches}

abbrev pub of_bool : Bool → ℤ
of_bool true = pos 1
of_bool false = pos 0

-- the value 1
abbrev pub is_true : ℤ → Bool
is_true z = int_eq z (pos 1)

abbrev pub compared : CmpOp → ℤ → ℤ → Bool
compared eq a b = int_eq a b
compared ne a b = not (int_eq a b)
compared lt a b = int_lt a b
compared le a b = int_le a b
compared gt a b = int_lt b a
compared ge a b = int_le b a

abbrev pub added : (minus : Bool) → ℤ → ℤ → ℤ
added true a b = a -ℤ b
added false a b = a +ℤ b

-- `div` truncates towards zero, and `mod` has the sign of the dividend; by 0 both give 0
abbrev pub multiplied : MulOp → ℤ → ℤ → ℤ
multiplied times a b = a *ℤ b
multiplied divided a b = if int_eq b (pos 0) then pos 0 else int_div a b
multiplied modulo a b = if int_eq b (pos 0) then pos 0 else int_rem a b

-- where `alg` gives the values of algebraic variables, and r is received
abbrev mutual
  pub net_value : (ℕ → ℤ) → State → ℤ → NetExpr → ℤ
  net_value alg s r (net_expr f at) = net_form_value alg s r f

  pub net_form_value : (ℕ → ℤ) → State → ℤ → NetForm → ℤ
  net_form_value alg s r (n_truth b) = of_bool b
  net_form_value alg s r (n_number z) = z
  net_form_value alg s r (n_loc a k) = of_bool (nat_eq (slice_index_or s.locs a 0) k)
  net_form_value alg s r (n_var k) = slice_index_or s.vals k (pos 0)
  net_form_value alg s r (n_input k) = slice_index_or s.ins k (pos 0)
  net_form_value alg s r (n_alg k) = alg k
  net_form_value alg s r n_received = r
  net_form_value alg s r (n_minus e) = neg_ℤ (net_value alg s r e)
  net_form_value alg s r (n_plus e) = net_value alg s r e
  net_form_value alg s r (n_not e) = of_bool (not (is_true (net_value alg s r e)))
  net_form_value alg s r (n_abs e) = pos (nat_abs (net_value alg s r e))
  net_form_value alg s r (n_min a b) = int_min (net_value alg s r a) (net_value alg s r b)
  net_form_value alg s r (n_max a b) = int_max (net_value alg s r a) (net_value alg s r b)
  net_form_value alg s r (n_sum e es) = net_sum alg s r (net_value alg s r e) es
  net_form_value alg s r (n_product e es) = net_product alg s r (net_value alg s r e) es
  net_form_value alg s r (n_compare a op b) = of_bool (compared op (net_value alg s r a) (net_value alg s r b))
  net_form_value alg s r (n_and es) = of_bool (net_all alg s r es)
  net_form_value alg s r (n_or es) = of_bool (net_any alg s r es)
  net_form_value alg s r (n_implies a b) = of_bool (not (is_true (net_value alg s r a)) || is_true (net_value alg s r b))
  net_form_value alg s r (n_iff a b) = of_bool (int_eq (net_value alg s r a) (net_value alg s r b))
  net_form_value alg s r (n_if bs e) = net_cases alg s r (net_value alg s r e) bs

  -- from left to right
  pub net_sum : (ℕ → ℤ) → State → ℤ → ℤ → NetTerms → ℤ
  net_sum alg s r z no_net_terms = z
  net_sum alg s r z (net_terms m e es) = net_sum alg s r (added m z (net_value alg s r e)) es

  pub net_product : (ℕ → ℤ) → State → ℤ → ℤ → NetFactors → ℤ
  net_product alg s r z no_net_factors = z
  net_product alg s r z (net_factors op e es) = net_product alg s r (multiplied op z (net_value alg s r e)) es

  pub net_all : (ℕ → ℤ) → State → ℤ → NetExprs → Bool
  net_all alg s r no_net_exprs = true
  net_all alg s r (net_exprs e es) = is_true (net_value alg s r e) && net_all alg s r es

  pub net_any : (ℕ → ℤ) → State → ℤ → NetExprs → Bool
  net_any alg s r no_net_exprs = false
  net_any alg s r (net_exprs e es) = is_true (net_value alg s r e) || net_any alg s r es

  -- the first branch whose condition holds, and else z
  pub net_cases : (ℕ → ℤ) → State → ℤ → ℤ → NetBranches → ℤ
  net_cases alg s r z no_net_branches = z
  net_cases alg s r z (net_branches c e bs) = if is_true (net_value alg s r c) then net_value alg s r e else net_cases alg s r z bs
