-- How an expression of a net is written in Structured Text (CIF 3 language reference, "Expressions"; IEC 61131-3,
-- "Expressions", "Selection statements"). Each `if` has a variable of its own, which an IF sets beforehand, so that a long
-- chain of conditions stays a chain. An operand stands in parentheses where it would be read otherwise without them, and
-- where a reader would hesitate.
use Rattle.std.specs.Prelude.{ℕ, suc, ◌+◌, ℤ, pos, negsuc, Bool, true, false, not, List, [], ◌∷◌, map, if◌then◌else◌}
use Rattle.cif_net_expr.specs.Tree.{CmpOp, eq, ne, lt, le, gt, ge, MulOp, times, divided, modulo, NetExpr, net_expr, NetForm, n_truth, n_number, n_loc, n_var, n_input, n_alg, n_received, n_minus, n_plus, n_not, n_abs, n_min, n_max, n_sum, n_product, n_compare, n_and, n_or, n_implies, n_iff, n_if, NetExprs, no_net_exprs, net_exprs, NetTerms, no_net_terms, net_terms, NetFactors, no_net_factors, net_factors, NetBranches, no_net_branches, net_branches}
use Rattle.grammar.specs.Pieces.{Text}
use Rattle.st_ast.specs.Tree.{Expr, Factors, Terms, truth, number, named, paren, negation, complement, product, sum, order, equal, all_of, odd_of, any_of, absolute, least, greatest, selection, exprs_of, no_factors, factors, no_terms, terms, Stm, Stms, Branches, assign, choice, no_stms, stms, no_branches, branches, other, append}
use Rattle.st_ast.specs.declared.tree.StMul.{StMul}
use Rattle.st_ast.specs.declared.tree.StMul.TheVariants as mul
use Rattle.st_ast.specs.declared.tree.StOrder.TheVariants as cmp

-- How what an expression names is written: that an automaton is in a place, and the names of variables, of inputs, of the
-- received value and of the variables of its own, one for each `if`.
pub record Naming : Type 0 where
  pub located : ℕ → ℕ → Expr
  pub variable : ℕ → Text
  pub input : ℕ → Text
  pub received : Text
  pub own : ℕ → Text

-- ---- operands

abbrev pub is_leaf : Expr → Bool
is_leaf (named x) = true
is_leaf (truth b) = true
is_leaf _ = false

-- AND, XOR and OR bind weaker than what may stand beside them
abbrev pub is_joined : Expr → Bool
is_joined (all_of es) = true
is_joined (odd_of es) = true
is_joined (any_of es) = true
is_joined _ = false

-- more than a literal or a name, and true or false
abbrev pub is_test : Expr → Bool
is_test (complement e) = true
is_test (order a op b) = true
is_test (equal a same b) = true
is_test (all_of es) = true
is_test (odd_of es) = true
is_test (any_of es) = true
is_test _ = false

-- what no operator has made
abbrev pub is_factor : Expr → Bool
is_factor (truth b) = true
is_factor (number z) = true
is_factor (named x) = true
is_factor (paren e) = true
is_factor (absolute e) = true
is_factor (least a b) = true
is_factor (greatest a b) = true
is_factor (selection g a b) = true
is_factor _ = false

abbrev pub is_term : Expr → Bool
is_term (product e fs) = true
is_term e = is_factor e

abbrev pub wrapped : Bool → Expr → Expr
wrapped b e = if b then paren e else e

-- of AND and OR
abbrev pub operand : Expr → Expr
operand e = wrapped (is_joined e) e

-- of a comparison
abbrev pub side : Expr → Expr
side e = wrapped (is_test e) e

-- of a product, or of a minus
abbrev pub factor : Expr → Expr
factor e = wrapped (not (is_factor e)) e

-- of a sum
abbrev pub term : Expr → Expr
term e = wrapped (not (is_term e)) e

-- ---- forms

-- a literal has no sign
abbrev pub number_text : ℤ → Expr
number_text (pos n) = number (pos n)
number_text (negsuc n) = paren (negation (number (pos (suc n))))

abbrev pub negated : Expr → Expr
negated (truth b) = truth (not b)
negated e = complement (wrapped (not (is_leaf e)) e)

-- whether it is more than `TRUE`
abbrev pub says : Expr → Bool
says (truth b) = not b
says _ = true

-- Of a conjunction those operands that say something. It stands for itself where it has one operand.
abbrev pub said : Expr → List Expr → List Expr
said e es = if says e then e ∷ es else es

abbrev pub all_said : List Expr → List Expr
all_said [] = []
all_said (e ∷ es) = said e (all_said es)

abbrev pub conjunction : List Expr → Expr
conjunction [] = truth true
conjunction (e ∷ []) = e
conjunction (e ∷ d ∷ es) = all_of (exprs_of (map operand (e ∷ d ∷ es)))

-- whether it is more than `FALSE`
abbrev pub says_or : Expr → Bool
says_or (truth b) = b
says_or _ = true

-- Of a disjunction those operands that aren't `FALSE`. It stands for itself where it has one operand.
abbrev pub said_or : Expr → List Expr → List Expr
said_or e es = if says_or e then e ∷ es else es

abbrev pub all_said_or : List Expr → List Expr
all_said_or [] = []
all_said_or (e ∷ es) = said_or e (all_said_or es)

abbrev pub disjunction : List Expr → Expr
disjunction [] = truth false
disjunction (e ∷ []) = e
disjunction (e ∷ d ∷ es) = any_of (exprs_of (map operand (e ∷ d ∷ es)))

-- `NOT a OR b`, and `TRUE` where a is `FALSE`
abbrev pub implication : Expr → Expr → Expr
implication (truth false) b = truth true
implication a b = disjunction (all_said_or (negated a ∷ b ∷ []))

abbrev pub comparison : CmpOp → Expr → Expr → Expr
comparison eq a b = equal (side a) true (side b)
comparison ne a b = equal (side a) false (side b)
comparison lt a b = order (side a) cmp.Lt (side b)
comparison le a b = order (side a) cmp.Le (side b)
comparison gt a b = order (side a) cmp.Gt (side b)
comparison ge a b = order (side a) cmp.Ge (side b)

abbrev pub mul_of : MulOp → StMul
mul_of times = mul.Times
mul_of divided = mul.Div
mul_of modulo = mul.Mod

-- a sum of one term is that term
abbrev pub sum_text : Expr → Terms → Expr
sum_text e no_terms = e
sum_text e (terms minus d ts) = sum (term e) (terms minus d ts)

abbrev pub product_text : Expr → Factors → Expr
product_text e no_factors = e
product_text e (factors op d fs) = product (factor e) (factors op d fs)

-- ---- variables of its own

abbrev mutual
  -- how many there are: one for each `if`
  pub temps : NetExpr → ℕ
  temps (net_expr f at) = form_temps f

  pub form_temps : NetForm → ℕ
  form_temps (n_minus e) = temps e
  form_temps (n_plus e) = temps e
  form_temps (n_not e) = temps e
  form_temps (n_abs e) = temps e
  form_temps (n_min a b) = temps a + temps b
  form_temps (n_max a b) = temps a + temps b
  form_temps (n_sum e es) = temps e + terms_temps es
  form_temps (n_product e es) = temps e + factors_temps es
  form_temps (n_compare a op b) = temps a + temps b
  form_temps (n_and es) = list_temps es
  form_temps (n_or es) = list_temps es
  form_temps (n_implies a b) = temps a + temps b
  form_temps (n_iff a b) = temps a + temps b
  form_temps (n_if bs e) = 1 + branches_temps bs + temps e
  form_temps f = 0

  pub terms_temps : NetTerms → ℕ
  terms_temps no_net_terms = 0
  terms_temps (net_terms m e es) = temps e + terms_temps es

  pub factors_temps : NetFactors → ℕ
  factors_temps no_net_factors = 0
  factors_temps (net_factors op e es) = temps e + factors_temps es

  pub list_temps : NetExprs → ℕ
  list_temps no_net_exprs = 0
  list_temps (net_exprs e es) = temps e + list_temps es

  pub branches_temps : NetBranches → ℕ
  branches_temps no_net_branches = 0
  branches_temps (net_branches c e bs) = temps c + temps e + branches_temps bs

-- ---- the expression

-- Its own variables are numbered from k, in the order of the text: an `if` before its parts, which stand in the variable.
-- Algebraic variables have no text; a net in which they are replaced names none.
abbrev mutual
  pub text : Naming → ℕ → NetExpr → Expr
  text w k (net_expr f at) = form_text w k f

  pub form_text : Naming → ℕ → NetForm → Expr
  form_text w k (n_truth b) = truth b
  form_text w k (n_number z) = number_text z
  form_text w k (n_loc a p) = w.located a p
  form_text w k (n_var v) = named (w.variable v)
  form_text w k (n_input v) = named (w.input v)
  form_text w k (n_alg v) = truth true
  form_text w k n_received = named w.received
  form_text w k (n_minus e) = negation (factor (text w k e))
  form_text w k (n_plus e) = text w k e
  form_text w k (n_not e) = negated (text w k e)
  form_text w k (n_abs e) = absolute (text w k e)
  form_text w k (n_min a b) = least (text w k a) (text w (k + temps a) b)
  form_text w k (n_max a b) = greatest (text w k a) (text w (k + temps a) b)
  form_text w k (n_sum e es) = sum_text (text w k e) (terms_text w (k + temps e) es)
  form_text w k (n_product e es) = product_text (text w k e) (factors_text w (k + temps e) es)
  form_text w k (n_compare a op b) = comparison op (text w k a) (text w (k + temps a) b)
  form_text w k (n_and es) = conjunction (all_said (texts w k es))
  form_text w k (n_or es) = disjunction (all_said_or (texts w k es))
  form_text w k (n_implies a b) = implication (text w k a) (text w (k + temps a) b)
  form_text w k (n_iff a b) = equal (side (text w k a)) true (side (text w (k + temps a) b))
  form_text w k (n_if bs e) = named (w.own k)

  pub terms_text : Naming → ℕ → NetTerms → Terms
  terms_text w k no_net_terms = no_terms
  terms_text w k (net_terms m e es) = terms m (term (text w k e)) (terms_text w (k + temps e) es)

  pub factors_text : Naming → ℕ → NetFactors → Factors
  factors_text w k no_net_factors = no_factors
  factors_text w k (net_factors op e es) = factors (mul_of op) (factor (text w k e)) (factors_text w (k + temps e) es)

  pub texts : Naming → ℕ → NetExprs → List Expr
  texts w k no_net_exprs = []
  texts w k (net_exprs e es) = text w k e ∷ texts w (k + temps e) es

-- ---- the statements before it

-- the variable x is set to the value of the first branch whose condition holds, the texts being numbered from k
abbrev pub branches_text : Naming → Text → ℕ → NetBranches → Branches
branches_text w x k no_net_branches = no_branches
branches_text w x k (net_branches c e bs) =
    branches (text w k c) (stms (assign x (text w (k + temps c) e)) no_stms) (branches_text w x (k + temps c + temps e) bs)

-- where there is no branch, the last value is it
abbrev pub case_text : Text → Branches → Expr → Stm
case_text x no_branches e = assign x e
case_text x (branches c ss bs) e = choice (branches c ss bs) (other (stms (assign x e) no_stms))

-- All parts of an `if` have their values before it, whether they are chosen or not.
abbrev mutual
  pub before : Naming → ℕ → NetExpr → Stms
  before w k (net_expr f at) = form_before w k f

  pub form_before : Naming → ℕ → NetForm → Stms
  form_before w k (n_minus e) = before w k e
  form_before w k (n_plus e) = before w k e
  form_before w k (n_not e) = before w k e
  form_before w k (n_abs e) = before w k e
  form_before w k (n_min a b) = append (before w k a) (before w (k + temps a) b)
  form_before w k (n_max a b) = append (before w k a) (before w (k + temps a) b)
  form_before w k (n_sum e es) = append (before w k e) (terms_before w (k + temps e) es)
  form_before w k (n_product e es) = append (before w k e) (factors_before w (k + temps e) es)
  form_before w k (n_compare a op b) = append (before w k a) (before w (k + temps a) b)
  form_before w k (n_and es) = list_before w k es
  form_before w k (n_or es) = list_before w k es
  form_before w k (n_implies a b) = append (before w k a) (before w (k + temps a) b)
  form_before w k (n_iff a b) = append (before w k a) (before w (k + temps a) b)
  form_before w k (n_if bs e) =
      append (branches_before w (k + 1) bs) (append (before w (k + 1 + branches_temps bs) e)
      (stms (case_text (w.own k) (branches_text w (w.own k) (k + 1) bs) (text w (k + 1 + branches_temps bs) e)) no_stms))
  form_before w k f = no_stms

  pub terms_before : Naming → ℕ → NetTerms → Stms
  terms_before w k no_net_terms = no_stms
  terms_before w k (net_terms m e es) = append (before w k e) (terms_before w (k + temps e) es)

  pub factors_before : Naming → ℕ → NetFactors → Stms
  factors_before w k no_net_factors = no_stms
  factors_before w k (net_factors op e es) = append (before w k e) (factors_before w (k + temps e) es)

  pub list_before : Naming → ℕ → NetExprs → Stms
  list_before w k no_net_exprs = no_stms
  list_before w k (net_exprs e es) = append (before w k e) (list_before w (k + temps e) es)

  pub branches_before : Naming → ℕ → NetBranches → Stms
  branches_before w k no_net_branches = no_stms
  branches_before w k (net_branches c e bs) =
      append (before w k c) (append (before w (k + temps c) e) (branches_before w (k + temps c + temps e) bs))
