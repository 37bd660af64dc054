-- What is asked of an expression, so that it is computed without a fault: each number has 32 bits and each result 64, no
-- divisor is 0, and what is true or false is 0 or 1.
use Rattle.std.specs.Prelude.{◌≡◌, ℕ, ℤ, pos, neg_ℤ, nat_abs, length, true, false}
use Rattle.std.specs.Ordering.{int_eq}
use Rattle.cif_base.specs.Bounds.{in_64_bits}
use Rattle.cif_system.specs.System.{State}
use Rattle.cif_net_expr.specs.Tree.{MulOp, times, divided, modulo, NetExpr, net_expr, NetForm, n_number, n_minus, n_plus, n_not, n_abs, n_min, n_max, n_sum, n_product, n_compare, n_and, n_or, n_implies, n_iff, n_if, NetExprs, no_net_exprs, net_exprs, NetTerms, no_net_terms, net_terms, NetFactors, no_net_factors, net_factors, NetBranches, no_net_branches, net_branches}
use Rattle.cif_net_model.specs.Net.{Net}
use Rattle.cif_net_model.specs.Unfolding.{at_or}
use Rattle.cif_net_model.specs.Meaning.{alg_values}
use Rattle.cif_net_model.specs.Value.{of_bool, is_true, added, multiplied, net_value}
use Rattle.cif_net_model.specs.Kinds.{in_32_bits}

-- what values are told from: those of algebraic variables, a state, and what is received
pub record Setting : Type 0 where
  pub algs : ℕ → ℤ
  pub state : State
  pub received : ℤ

abbrev pub value_at : Setting → NetExpr → ℤ
value_at x e = net_value x.algs x.state x.received e

-- those of a net in a state, where r is received
abbrev pub setting_in : Net → State → ℤ → Setting
setting_in n s r = record { algs = at_or (pos 0) (alg_values n s r (length n.algs)); state = s; received = r }

-- 0 or 1
abbrev pub IsTruth : ℤ → Type 0
IsTruth z = z ≡ of_bool (is_true z)

abbrev pub HasBits : ℤ → Type 0
HasBits z = in_64_bits z ≡ true

abbrev pub CanDivide : MulOp → ℤ → Type 0
CanDivide times z = Unit {0}
CanDivide divided z = int_eq z (pos 0) ≡ false
CanDivide modulo z = int_eq z (pos 0) ≡ false

abbrev mutual
  pub IsSafe : Setting → NetExpr → Type 0
  IsSafe x (net_expr f at) = IsSafeForm x f

  pub IsSafeForm : Setting → NetForm → Type 0
  IsSafeForm x (n_number z) = in_32_bits z ≡ true
  IsSafeForm x (n_minus e) = IsSafe x e × HasBits (neg_ℤ (value_at x e))
  IsSafeForm x (n_plus e) = IsSafe x e
  IsSafeForm x (n_not e) = IsSafe x e × IsTruth (value_at x e)
  IsSafeForm x (n_abs e) = IsSafe x e × HasBits (pos (nat_abs (value_at x e)))
  IsSafeForm x (n_min a b) = IsSafe x a × IsSafe x b
  IsSafeForm x (n_max a b) = IsSafe x a × IsSafe x b
  IsSafeForm x (n_sum e es) = IsSafe x e × AreSafeTerms x (value_at x e) es
  IsSafeForm x (n_product e es) = IsSafe x e × AreSafeFactors x (value_at x e) es
  IsSafeForm x (n_compare a op b) = IsSafe x a × IsSafe x b
  IsSafeForm x (n_and es) = AreSafeTruths x es
  IsSafeForm x (n_or es) = AreSafeTruths x es
  IsSafeForm x (n_implies a b) = (IsSafe x a × IsTruth (value_at x a)) × (IsSafe x b × IsTruth (value_at x b))
  IsSafeForm x (n_iff a b) = IsSafe x a × IsSafe x b
  IsSafeForm x (n_if bs e) = AreSafeBranches x bs × IsSafe x e
  IsSafeForm x f = Unit {0}

  -- each sum on the way
  pub AreSafeTerms : Setting → ℤ → NetTerms → Type 0
  AreSafeTerms x z no_net_terms = Unit {0}
  AreSafeTerms x z (net_terms m e es) = IsSafe x e × HasBits (added m z (value_at x e)) × AreSafeTerms x (added m z (value_at x e)) es

  -- each product on the way
  pub AreSafeFactors : Setting → ℤ → NetFactors → Type 0
  AreSafeFactors x z no_net_factors = Unit {0}
  AreSafeFactors x z (net_factors op e es) =
      IsSafe x e × CanDivide op (value_at x e) × HasBits (multiplied op z (value_at x e)) × AreSafeFactors x (multiplied op z (value_at x e)) es

  pub AreSafeTruths : Setting → NetExprs → Type 0
  AreSafeTruths x no_net_exprs = Unit {0}
  AreSafeTruths x (net_exprs e es) = IsSafe x e × IsTruth (value_at x e) × AreSafeTruths x es

  -- also of those that aren't chosen
  pub AreSafeBranches : Setting → NetBranches → Type 0
  AreSafeBranches x no_net_branches = Unit {0}
  AreSafeBranches x (net_branches c e bs) = IsSafe x c × IsTruth (value_at x c) × IsSafe x e × AreSafeBranches x bs
