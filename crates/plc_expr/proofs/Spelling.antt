-- The text of an expression, and the statements before it, have a spelling: the text nests at most three times as deep as the
-- expression, and two deeper.
use Rattle.std.proofs.Common.{◌≡◌, ℕ, zero, suc, ◌+◌, ◌*◌, ◌≤◌, max, ℤ, pos, negsuc, Bool, true, false, not, ◌&&◌, List, [], ◌∷◌, map, refl, arith}
use Rattle.std.specs.Prelude.{Option, if◌then◌else◌}
use Rattle.std.specs.List.{AllByRecursion}
use Rattle.std.proofs.lemmas.Bool.Decides.{nat_tests}
use Rattle.std.proofs.lemmas.Int.{ints}
use Rattle.cif_base.specs.declared.types.Ty.{Ty}
use Rattle.cif_net_expr.specs.Tree.{CmpOp, eq, ne, lt, le, gt, ge, NetExpr, net_expr, NetForm, n_truth, n_number, n_loc, n_var, n_input, n_alg, n_received, n_minus, n_plus, n_not, n_abs, n_min, n_max, n_sum, n_product, n_compare, n_and, n_or, n_implies, n_iff, n_if, NetExprs, no_net_exprs, net_exprs, NetTerms, no_net_terms, net_terms, NetFactors, no_net_factors, net_factors, NetBranches, no_net_branches, net_branches}
use Rattle.cif_net_model.specs.Net.{Net}
use Rattle.cif_net_model.specs.Counts.{Measure, measure_by, form_measure, terms_measure, factors_measure, list_measure, branches_measure}
use Rattle.cif_net_model.specs.Kinds.{Kind, bool_kind, int_kind, in_32_bits, fits, form_fits, terms_fit, factors_fit, all_fit, branches_fit}
use Rattle.cif_net_model.proofs.Passing.{and-left, and-right}
use Rattle.st_ast.specs.Grammar.{Level, at_or, at_xor, at_equal, at_order, at_sum, at_product, at_unary}
use Rattle.st_ast.specs.Tree.{Expr, Factors, Terms, Stms, Branches, truth, named, negation, complement, product, sum, order, equal, all_of, odd_of, any_of, absolute, least, greatest, exprs_of, no_factors, factors, no_terms, terms, assign, no_stms, stms, no_branches, branches, append}
use Rattle.st_ast.specs.Spelled.{has_literal, is_name, is_expr, are_exprs, are_terms, are_factors, is_whole_expr, is_stm, are_stms, are_branches}
use Rattle.plc_expr.specs.Texts.{Naming, is_leaf, is_joined, is_test, is_factor, is_term, wrapped, operand, side, factor, term, number_text, negated, says, said, all_said, conjunction, says_or, said_or, all_said_or, disjunction, implication, comparison, sum_text, product_text, temps, branches_temps, text, form_text, terms_text, factors_text, texts, branches_text, case_text, before, form_before, terms_before, factors_before, list_before, branches_before}
use Rattle.plc_expr.specs.Sorts.{NamesAreSpelled}
use Rattle.cif_net_model.proofs.Sides.{sides-fit, number-small}

both-true : (a b : Bool) → a ≡ true → b ≡ true → (a && b) ≡ true
both-true a b x y = rw x y

-- the expression has a spelling within each depth from b on
abbrev pub Within : ℕ → Expr → Type 0
Within b e = (k : ℕ) → b ≤ k → is_expr k at_or e ≡ true

wider : (b c : ℕ) (e : Expr) → b ≤ c → Within b e → Within c e
wider b c e h g k l = g k (omega arith)

-- ---- operands

-- what doesn't pass may stand where that level is asked for
abbrev Lifts : (Expr → Bool) → Level → Type 0
Lifts t l = (k : ℕ) (e : Expr) → t e ≡ false → is_expr k at_or e ≡ true → is_expr k l e ≡ true

wrapped-spelled : (t : Expr → Bool) (l : Level) → Lifts t l → (b k : ℕ) (e : Expr) → Within b e → b + 1 ≤ k → is_expr k l (wrapped (t e) e) ≡ true
wrapped-spelled t l lifts b zero e h more = absurd (omega (arith, more))
wrapped-spelled t l lifts b (suc k) e h more = go (t e) refl
  where
    go : (c : Bool) → t e ≡ c → is_expr (suc k) l (wrapped c e) ≡ true
    go true is = h k (omega (arith, more))
    go false is = lifts (suc k) e is (h (suc k) (omega (arith, more)))

joined-equal : Lifts is_joined at_equal
joined-equal k (all_of es) h g = absurd cc
joined-equal k (odd_of es) h g = absurd cc
joined-equal k (any_of es) h g = absurd cc
joined-equal k e h g = g

joined-xor : Lifts is_joined at_xor
joined-xor k (all_of es) h g = absurd cc
joined-xor k (odd_of es) h g = absurd cc
joined-xor k (any_of es) h g = absurd cc
joined-xor k e h g = g

test-order : Lifts is_test at_order
test-order k (complement e) h g = absurd cc
test-order k (order a op b) h g = absurd cc
test-order k (equal a same b) h g = absurd cc
test-order k (all_of es) h g = absurd cc
test-order k (odd_of es) h g = absurd cc
test-order k (any_of es) h g = absurd cc
test-order k e h g = g

test-sum : Lifts is_test at_sum
test-sum k (complement e) h g = absurd cc
test-sum k (order a op b) h g = absurd cc
test-sum k (equal a same b) h g = absurd cc
test-sum k (all_of es) h g = absurd cc
test-sum k (odd_of es) h g = absurd cc
test-sum k (any_of es) h g = absurd cc
test-sum k e h g = g

term-product : Lifts (λ e. not (is_term e)) at_product
term-product k (negation e) h g = absurd cc
term-product k (complement e) h g = absurd cc
term-product k (sum e ts) h g = absurd cc
term-product k (order a op b) h g = absurd cc
term-product k (equal a same b) h g = absurd cc
term-product k (all_of es) h g = absurd cc
term-product k (odd_of es) h g = absurd cc
term-product k (any_of es) h g = absurd cc
term-product k e h g = g

factor-unary : Lifts (λ e. not (is_factor e)) at_unary
factor-unary k (negation e) h g = absurd cc
factor-unary k (complement e) h g = absurd cc
factor-unary k (product e fs) h g = absurd cc
factor-unary k (sum e ts) h g = absurd cc
factor-unary k (order a op b) h g = absurd cc
factor-unary k (equal a same b) h g = absurd cc
factor-unary k (all_of es) h g = absurd cc
factor-unary k (odd_of es) h g = absurd cc
factor-unary k (any_of es) h g = absurd cc
factor-unary k e h g = g

-- ---- forms of truth

-- a leaf stands as it is, and else there are parentheses
unary-spelled : (k : ℕ) (e : Expr) → is_expr k at_or e ≡ true → is_expr (suc k) at_unary (wrapped (not (is_leaf e)) e) ≡ true
unary-spelled k (named x) g = g
unary-spelled k e g = g

negated-spelled : (b : ℕ) (e : Expr) → Within b e → Within (b + 2) (negated e)
negated-spelled b (truth t) h k more = refl
negated-spelled b e h zero more = absurd (omega (arith, more))
negated-spelled b e h (suc zero) more = absurd (omega (arith, more))
negated-spelled b e h (suc (suc k)) more = unary-spelled k e (h k (omega (arith, more)))

-- it has a spelling, also as an operand where that level is asked for
pub record Part (l : Level) (b : ℕ) (e : Expr) : Type 0 where
  pub alone : Within b e
  pub beside : (k : ℕ) → b ≤ k → is_expr k l (operand e) ≡ true

part : (l : Level) → Lifts is_joined l → (b : ℕ) (e : Expr) → Within b e → Part l (b + 1) e
part l lifts b e h = record { alone = wider b (b + 1) e (omega arith) h; beside = λ k more. wrapped-spelled is_joined l lifts b k e h more }

wider-part : (l : Level) (b c : ℕ) (e : Expr) → b ≤ c → Part l b e → Part l c e
wider-part l b c e h p = record { alone = wider b c e h p.alone; beside = λ k more. p.beside k (omega arith) }

-- a negation is no list of operands
negated-part : (b : ℕ) (e : Expr) → Within b e → Part at_xor (b + 2) (negated e)
negated-part b (truth t) h = record { alone = λ k more. refl; beside = λ k more. refl }
negated-part b e h = record { alone = negated-spelled b e h; beside = by b e h }
  where
    by : (b : ℕ) (e : Expr) → Within b e → (k : ℕ) → b + 2 ≤ k → is_expr k at_xor (complement (wrapped (not (is_leaf e)) e)) ≡ true
    by b e h zero more = absurd (omega (arith, more))
    by b e h (suc zero) more = absurd (omega (arith, more))
    by b e h (suc (suc k)) more = unary-spelled k e (h k (omega (arith, more)))

operands-spelled : (l : Level) (b k : ℕ) (es : List Expr) → AllByRecursion (Part l b) es → b ≤ k → are_exprs k l (exprs_of (map operand es)) ≡ true
operands-spelled l b k [] h more = refl
operands-spelled l b k (e ∷ es) h more = both-true (is_expr k l (operand e)) (are_exprs k l (exprs_of (map operand es))) (h.0.beside k more) (operands-spelled l b k es h.1 more)

conjunction-spelled : (b : ℕ) (es : List Expr) → AllByRecursion (Part at_equal b) es → Within (b + 1) (conjunction es)
conjunction-spelled b [] h k more = refl
conjunction-spelled b (e ∷ []) h k more = h.0.alone k (omega (arith, more))
conjunction-spelled b (e ∷ d ∷ es) h zero more = absurd (omega (arith, more))
conjunction-spelled b (e ∷ d ∷ es) h (suc k) more = operands-spelled at_equal b k (e ∷ d ∷ es) h (omega (arith, more))

disjunction-spelled : (b : ℕ) (es : List Expr) → AllByRecursion (Part at_xor b) es → Within (b + 1) (disjunction es)
disjunction-spelled b [] h k more = refl
disjunction-spelled b (e ∷ []) h k more = h.0.alone k (omega (arith, more))
disjunction-spelled b (e ∷ d ∷ es) h zero more = absurd (omega (arith, more))
disjunction-spelled b (e ∷ d ∷ es) h (suc k) more = operands-spelled at_xor b k (e ∷ d ∷ es) h (omega (arith, more))

pub said-all : (P : Expr → Type 0) (e : Expr) (es : List Expr) → P e → AllByRecursion P es → AllByRecursion P (said e es)
said-all P e es h all = go (says e)
  where
    go : (t : Bool) → AllByRecursion P (if t then e ∷ es else es)
    go true = (h, all)
    go false = all

pub said_or-all : (P : Expr → Type 0) (e : Expr) (es : List Expr) → P e → AllByRecursion P es → AllByRecursion P (said_or e es)
said_or-all P e es h all = go (says_or e)
  where
    go : (t : Bool) → AllByRecursion P (if t then e ∷ es else es)
    go true = (h, all)
    go false = all

implication-spelled : (b : ℕ) (p q : Expr) → Within b p → Within b q → Within (b + 3) (implication p q)
implication-spelled b (truth false) q h g = λ k more. refl
implication-spelled b p q h g =
    wider (b + 2 + 1) (b + 3) (implication p q) (omega arith)
    (disjunction-spelled (b + 2) (all_said_or (negated p ∷ q ∷ []))
    (said_or-all (Part at_xor (b + 2)) (negated p) (said_or q []) (negated-part b p h)
    (said_or-all (Part at_xor (b + 2)) q [] (wider-part at_xor (b + 1) (b + 2) q (omega arith) (part at_xor joined-xor b q g)) tt)))

-- ---- comparisons

equal-spelled : (b : ℕ) (p q : Expr) (same : Bool) → Within b p → Within b q → Within (b + 2) (equal (side p) same (side q))
equal-spelled b p q same h g zero more = absurd (omega (arith, more))
equal-spelled b p q same h g (suc k) more =
    both-true (is_expr k at_order (side p)) (is_expr k at_order (side q)) (wrapped-spelled is_test at_order test-order b k p h (omega (arith, more))) (wrapped-spelled is_test at_order test-order b k q g (omega (arith, more)))

sides-spelled : (b k : ℕ) (p q : Expr) → Within b p → Within b q → b + 1 ≤ k → (is_expr k at_sum (side p) && is_expr k at_sum (side q)) ≡ true
sides-spelled b k p q h g more =
    both-true (is_expr k at_sum (side p)) (is_expr k at_sum (side q)) (wrapped-spelled is_test at_sum test-sum b k p h more) (wrapped-spelled is_test at_sum test-sum b k q g more)

comparison-spelled : (op : CmpOp) (b : ℕ) (p q : Expr) → Within b p → Within b q → Within (b + 2) (comparison op p q)
comparison-spelled eq b p q h g k more = equal-spelled b p q true h g k more
comparison-spelled ne b p q h g k more = equal-spelled b p q false h g k more
comparison-spelled lt b p q h g zero more = absurd (omega (arith, more))
comparison-spelled lt b p q h g (suc k) more = sides-spelled b k p q h g (omega (arith, more))
comparison-spelled le b p q h g zero l = absurd (omega (arith, l))
comparison-spelled le b p q h g (suc k) l = sides-spelled b k p q h g (omega (arith, l))
comparison-spelled gt b p q h g zero more = absurd (omega (arith, more))
comparison-spelled gt b p q h g (suc k) more = sides-spelled b k p q h g (omega (arith, more))
comparison-spelled ge b p q h g zero more = absurd (omega (arith, more))
comparison-spelled ge b p q h g (suc k) more = sides-spelled b k p q h g (omega (arith, more))

-- ---- numbers

has-literal : (n : ℕ) → n ≤ 2147483648 → has_literal (pos n) ≡ true
has-literal n h = grind (arith, nat_tests)

number-spelled : (z : ℤ) → in_32_bits z ≡ true → Within 2 (number_text z)
number-spelled (pos n) h k more = has-literal n (grind (arith, ints))
number-spelled (negsuc n) h zero more = absurd (omega (arith, more))
number-spelled (negsuc n) h (suc zero) more = absurd (omega (arith, more))
number-spelled (negsuc n) h (suc (suc k)) more = has-literal (suc n) (grind (arith, ints))

minus-spelled : (b : ℕ) (e : Expr) → Within b e → Within (b + 2) (negation (factor e))
minus-spelled b e h zero more = absurd (omega (arith, more))
minus-spelled b e h (suc k) more = wrapped-spelled (λ d. not (is_factor d)) at_unary factor-unary b k e h (omega (arith, more))

absolute-spelled : (b : ℕ) (e : Expr) → Within b e → Within (b + 1) (absolute e)
absolute-spelled b e h zero more = absurd (omega (arith, more))
absolute-spelled b e h (suc k) more = h k (omega (arith, more))

least-spelled : (b : ℕ) (p q : Expr) → Within b p → Within b q → Within (b + 1) (least p q)
least-spelled b p q h g zero more = absurd (omega (arith, more))
least-spelled b p q h g (suc k) more = both-true (is_expr k at_or p) (is_expr k at_or q) (h k (omega (arith, more))) (g k (omega (arith, more)))

greatest-spelled : (b : ℕ) (p q : Expr) → Within b p → Within b q → Within (b + 1) (greatest p q)
greatest-spelled b p q h g zero more = absurd (omega (arith, more))
greatest-spelled b p q h g (suc k) more = both-true (is_expr k at_or p) (is_expr k at_or q) (h k (omega (arith, more))) (g k (omega (arith, more)))

abbrev TermsWithin : ℕ → Terms → Type 0
TermsWithin b ts = (k : ℕ) → b ≤ k → are_terms k ts ≡ true

abbrev FactorsWithin : ℕ → Factors → Type 0
FactorsWithin b fs = (k : ℕ) → b ≤ k → are_factors k fs ≡ true

term-spelled : (b k : ℕ) (e : Expr) → Within b e → b + 1 ≤ k → is_expr k at_product (term e) ≡ true
term-spelled b k e h more = wrapped-spelled (λ d. not (is_term d)) at_product term-product b k e h more

factor-spelled : (b k : ℕ) (e : Expr) → Within b e → b + 1 ≤ k → is_expr k at_unary (factor e) ≡ true
factor-spelled b k e h more = wrapped-spelled (λ d. not (is_factor d)) at_unary factor-unary b k e h more

sum-spelled : (b : ℕ) (e : Expr) (ts : Terms) → Within b e → TermsWithin (b + 1) ts → Within (b + 2) (sum_text e ts)
sum-spelled b e no_terms h g k more = h k (omega (arith, more))
sum-spelled b e (terms m d ts) h g zero more = absurd (omega (arith, more))
sum-spelled b e (terms m d ts) h g (suc k) more =
    both-true (is_expr k at_product (term e)) (are_terms k (terms m d ts)) (term-spelled b k e h (omega (arith, more))) (g k (omega (arith, more)))

product-spelled : (b : ℕ) (e : Expr) (fs : Factors) → Within b e → FactorsWithin (b + 1) fs → Within (b + 2) (product_text e fs)
product-spelled b e no_factors h g k more = h k (omega (arith, more))
product-spelled b e (factors op d fs) h g zero more = absurd (omega (arith, more))
product-spelled b e (factors op d fs) h g (suc k) more =
    both-true (is_expr k at_unary (factor e)) (are_factors k (factors op d fs)) (factor-spelled b k e h (omega (arith, more))) (g k (omega (arith, more)))

-- ---- expressions

-- the bound of a text by the depth of its expression
abbrev pub most : ℕ → ℕ
most d = 3 * d + 2

module _ (w : Naming) (n : Net) (names : NamesAreSpelled w n) (r : Option Ty) (alg : ℕ → Measure) where
  abbrev depth : NetExpr → ℕ
  depth e = (measure_by alg e).depth

  within : (d c : ℕ) (e : Expr) → d ≤ c → Within (most d) e → Within (most c) e
  within d c e h g = wider (most d) (most c) e (omega arith) g

  -- one form more
  up : (d j : ℕ) (e : Expr) → j ≤ 3 → Within (most d + j) e → Within (most (d + 1)) e
  up d j e h g = wider (most d + j) (most (d + 1)) e (omega arith) g

  mutual
    pub expr-spelled : (kind : Kind) (k : ℕ) (e : NetExpr) → fits n r kind e ≡ true → Within (most (depth e)) (text w k e)
    expr-spelled kind k (net_expr f at) h = form-spelled kind k f h

    form-spelled : (kind : Kind) (k : ℕ) (f : NetForm) → form_fits n r kind f ≡ true → Within (most (form_measure alg f).depth) (form_text w k f)
    form-spelled kind k (n_truth b) h = λ j more. refl
    form-spelled kind k (n_number z) h = λ j more. number-spelled z (number-small kind z h) j (omega (arith, more))
    form-spelled kind k (n_loc a p) h = λ j more. names.located a p (grind (arith, nat_tests)) j (omega (arith, more))
    form-spelled kind k (n_var v) h = λ j more. names.variable v
    form-spelled kind k (n_input v) h = λ j more. names.input v
    form-spelled kind k (n_alg v) h = λ j more. refl
    form-spelled kind k n_received h = λ j more. names.received
    form-spelled kind k (n_minus e) h = up (depth e) 2 (negation (factor (text w k e))) (omega arith) (minus-spelled (most (depth e)) (text w k e) (expr-spelled int_kind k e (and-right _ _ h)))
    form-spelled kind k (n_plus e) h = within (depth e) (depth e + 1) (text w k e) (omega arith) (expr-spelled int_kind k e (and-right _ _ h))
    form-spelled kind k (n_not e) h = up (depth e) 2 (negated (text w k e)) (omega arith) (negated-spelled (most (depth e)) (text w k e) (expr-spelled bool_kind k e (and-right _ _ h)))
    form-spelled kind k (n_abs e) h = up (depth e) 1 (absolute (text w k e)) (omega arith) (absolute-spelled (most (depth e)) (text w k e) (expr-spelled int_kind k e (and-right _ _ h)))
    form-spelled kind k (n_min a b) h =
        let d = max (depth a) (depth b) in
        up d 1 (least (text w k a) (text w (k + temps a) b)) (omega arith)
        (least-spelled (most d) (text w k a) (text w (k + temps a) b) (within (depth a) d (text w k a) (omega arith) (expr-spelled int_kind k a (and-right _ _ (and-left _ _ h))))
        (within (depth b) d (text w (k + temps a) b) (omega arith) (expr-spelled int_kind (k + temps a) b (and-right _ _ h))))
    form-spelled kind k (n_max a b) h =
        let d = max (depth a) (depth b) in
        up d 1 (greatest (text w k a) (text w (k + temps a) b)) (omega arith)
        (greatest-spelled (most d) (text w k a) (text w (k + temps a) b) (within (depth a) d (text w k a) (omega arith) (expr-spelled int_kind k a (and-right _ _ (and-left _ _ h))))
        (within (depth b) d (text w (k + temps a) b) (omega arith) (expr-spelled int_kind (k + temps a) b (and-right _ _ h))))
    form-spelled kind k (n_sum e es) h =
        let d = max (depth e) (terms_measure alg es).depth in
        up d 2 (sum_text (text w k e) (terms_text w (k + temps e) es)) (omega arith)
        (sum-spelled (most d) (text w k e) (terms_text w (k + temps e) es) (within (depth e) d (text w k e) (omega arith) (expr-spelled int_kind k e (and-right _ _ (and-left _ _ h))))
        (λ j more. terms-spelled (k + temps e) es (and-right _ _ h) j (omega (arith, more))))
    form-spelled kind k (n_product e es) h =
        let d = max (depth e) (factors_measure alg es).depth in
        up d 2 (product_text (text w k e) (factors_text w (k + temps e) es)) (omega arith)
        (product-spelled (most d) (text w k e) (factors_text w (k + temps e) es) (within (depth e) d (text w k e) (omega arith) (expr-spelled int_kind k e (and-right _ _ (and-left _ _ h))))
        (λ j more. factors-spelled (k + temps e) es (and-right _ _ h) j (omega (arith, more))))
    form-spelled kind k (n_compare a op b) h =
        let d = max (depth a) (depth b) in
        let hh = sides-fit n r kind op a b h in
        up d 2 (comparison op (text w k a) (text w (k + temps a) b)) (omega arith)
        (comparison-spelled op (most d) (text w k a) (text w (k + temps a) b) (within (depth a) d (text w k a) (omega arith) (expr-spelled hh.kind k a hh.left))
        (within (depth b) d (text w (k + temps a) b) (omega arith) (expr-spelled hh.kind (k + temps a) b hh.right)))
    form-spelled kind k (n_and es) h =
        let d = (list_measure alg es).depth in
        up d 2 (conjunction (all_said (texts w k es))) (omega arith)
        (wider (most d + 1 + 1) (most d + 2) (conjunction (all_said (texts w k es))) (omega arith) (conjunction-spelled (most d + 1) (all_said (texts w k es)) (all-spelled k es d (omega arith) (and-right _ _ h))))
    form-spelled kind k (n_or es) h =
        let d = (list_measure alg es).depth in
        up d 2 (disjunction (all_said_or (texts w k es))) (omega arith)
        (wider (most d + 1 + 1) (most d + 2) (disjunction (all_said_or (texts w k es))) (omega arith) (disjunction-spelled (most d + 1) (all_said_or (texts w k es)) (any-spelled k es d (omega arith) (and-right _ _ h))))
    form-spelled kind k (n_implies a b) h =
        let d = max (depth a) (depth b) in
        up d 3 (implication (text w k a) (text w (k + temps a) b)) (omega arith)
        (implication-spelled (most d) (text w k a) (text w (k + temps a) b) (within (depth a) d (text w k a) (omega arith) (expr-spelled bool_kind k a (and-right _ _ (and-left _ _ h))))
        (within (depth b) d (text w (k + temps a) b) (omega arith) (expr-spelled bool_kind (k + temps a) b (and-right _ _ h))))
    form-spelled kind k (n_iff a b) h =
        let d = max (depth a) (depth b) in
        up d 2 (equal (side (text w k a)) true (side (text w (k + temps a) b))) (omega arith)
        (equal-spelled (most d) (text w k a) (text w (k + temps a) b) true (within (depth a) d (text w k a) (omega arith) (expr-spelled bool_kind k a (and-right _ _ (and-left _ _ h))))
        (within (depth b) d (text w (k + temps a) b) (omega arith) (expr-spelled bool_kind (k + temps a) b (and-right _ _ h))))
    form-spelled kind k (n_if bs e) h = λ j more. names.own k

    terms-spelled : (k : ℕ) (es : NetTerms) → terms_fit n r es ≡ true → TermsWithin (most (terms_measure alg es).depth + 1) (terms_text w k es)
    terms-spelled k no_net_terms h j more = refl
    terms-spelled k (net_terms m e es) h j more =
        both-true (is_expr j at_product (term (text w k e))) (are_terms j (terms_text w (k + temps e) es))
        (term-spelled (most (depth e)) j (text w k e) (expr-spelled int_kind k e (and-left _ _ h)) (omega (arith, more)))
        (terms-spelled (k + temps e) es (and-right _ _ h) j (omega (arith, more)))

    factors-spelled : (k : ℕ) (es : NetFactors) → factors_fit n r es ≡ true → FactorsWithin (most (factors_measure alg es).depth + 1) (factors_text w k es)
    factors-spelled k no_net_factors h j more = refl
    factors-spelled k (net_factors op e es) h j more =
        both-true (is_expr j at_unary (factor (text w k e))) (are_factors j (factors_text w (k + temps e) es))
        (factor-spelled (most (depth e)) j (text w k e) (expr-spelled int_kind k e (and-left _ _ h)) (omega (arith, more)))
        (factors-spelled (k + temps e) es (and-right _ _ h) j (omega (arith, more)))

    all-spelled : (k : ℕ) (es : NetExprs) (d : ℕ) → (list_measure alg es).depth ≤ d → all_fit n r es ≡ true → AllByRecursion (Part at_equal (most d + 1)) (all_said (texts w k es))
    all-spelled k no_net_exprs d l h = tt
    all-spelled k (net_exprs e es) d l h =
        said-all (Part at_equal (most d + 1)) (text w k e) (all_said (texts w (k + temps e) es))
        (part at_equal joined-equal (most d) (text w k e) (within (depth e) d (text w k e) (omega (arith, l)) (expr-spelled bool_kind k e (and-left _ _ h))))
        (all-spelled (k + temps e) es d (omega (arith, l)) (and-right _ _ h))

    any-spelled : (k : ℕ) (es : NetExprs) (d : ℕ) → (list_measure alg es).depth ≤ d → all_fit n r es ≡ true → AllByRecursion (Part at_xor (most d + 1)) (all_said_or (texts w k es))
    any-spelled k no_net_exprs d l h = tt
    any-spelled k (net_exprs e es) d l h =
        said_or-all (Part at_xor (most d + 1)) (text w k e) (all_said_or (texts w (k + temps e) es))
        (part at_xor joined-xor (most d) (text w k e) (within (depth e) d (text w k e) (omega (arith, l)) (expr-spelled bool_kind k e (and-left _ _ h))))
        (any-spelled (k + temps e) es d (omega (arith, l)) (and-right _ _ h))

  -- ---- statements

  append-spelled : (d : ℕ) (a b : Stms) → are_stms d a ≡ true → are_stms d b ≡ true → are_stms d (append a b) ≡ true
  append-spelled d no_stms b h g = g
  append-spelled d (stms s ss) b h g = both-true (is_stm d s) (are_stms d (append ss b)) (and-left _ _ h) (append-spelled d ss b (and-right _ _ h) g)

  -- what isn't too deep is an expression of a statement
  whole : (kind : Kind) (k : ℕ) (e : NetExpr) → fits n r kind e ≡ true → depth e ≤ 132 → is_whole_expr (text w k e) ≡ true
  whole kind k e h l = expr-spelled kind k e h 400 (omega (arith, l))

  assign-spelled : (d i : ℕ) (e : Expr) → is_whole_expr e ≡ true → are_stms d (stms (assign (w.own i) e) no_stms) ≡ true
  assign-spelled d i e h = both-true (is_name (w.own i) && is_whole_expr e) true (both-true (is_name (w.own i)) (is_whole_expr e) (names.own i) h) refl

  branches-spelled : (kind : Kind) (d i k : ℕ) (bs : NetBranches) → branches_fit n r kind bs ≡ true → (branches_measure alg bs).depth ≤ 132 → are_branches d (branches_text w (w.own i) k bs) ≡ true
  branches-spelled kind d i k no_net_branches h l = refl
  branches-spelled kind d i k (net_branches c e bs) h l =
      both-true (is_whole_expr (text w k c)) (are_stms d (stms (assign (w.own i) (text w (k + temps c) e)) no_stms) && are_branches d (branches_text w (w.own i) (k + temps c + temps e) bs))
      (whole bool_kind k c (and-left _ _ (and-left _ _ h)) (omega (arith, l)))
      (both-true (are_stms d (stms (assign (w.own i) (text w (k + temps c) e)) no_stms)) (are_branches d (branches_text w (w.own i) (k + temps c + temps e) bs))
      (assign-spelled d i (text w (k + temps c) e) (whole kind (k + temps c) e (and-right _ _ (and-left _ _ h)) (omega (arith, l))))
      (branches-spelled kind d i (k + temps c + temps e) bs (and-right _ _ h) (omega (arith, l))))

  case-spelled : (d i : ℕ) (bs : Branches) (e : Expr) → are_branches d bs ≡ true → is_whole_expr e ≡ true → are_stms (suc d) (stms (case_text (w.own i) bs e) no_stms) ≡ true
  case-spelled d i no_branches e h g = assign-spelled (suc d) i e g
  case-spelled d i (branches c ss bs) e h g =
      both-true (are_branches d (branches c ss bs) && are_stms d (stms (assign (w.own i) e) no_stms)) true
      (both-true (are_branches d (branches c ss bs)) (are_stms d (stms (assign (w.own i) e) no_stms)) h (assign-spelled d i e g)) refl

  module _ (d : ℕ) where
    abbrev Spelled : Stms → Type 0
    Spelled ss = are_stms (suc d) ss ≡ true

    two : (a b : Stms) → Spelled a → Spelled b → Spelled (append a b)
    two = append-spelled (suc d)

    mutual
      pub before-spelled : (kind : Kind) (k : ℕ) (e : NetExpr) → fits n r kind e ≡ true → depth e ≤ 132 → Spelled (before w k e)
      before-spelled kind k (net_expr f at) h l = form-before-spelled kind k f h l

      form-before-spelled : (kind : Kind) (k : ℕ) (f : NetForm) → form_fits n r kind f ≡ true → (form_measure alg f).depth ≤ 132 → Spelled (form_before w k f)
      form-before-spelled kind k (n_truth b) h l = refl
      form-before-spelled kind k (n_number z) h l = refl
      form-before-spelled kind k (n_loc a p) h l = refl
      form-before-spelled kind k (n_var v) h l = refl
      form-before-spelled kind k (n_input v) h l = refl
      form-before-spelled kind k (n_alg v) h l = refl
      form-before-spelled kind k n_received h l = refl
      form-before-spelled kind k (n_minus e) h l = before-spelled int_kind k e (and-right _ _ h) (omega (arith, l))
      form-before-spelled kind k (n_plus e) h l = before-spelled int_kind k e (and-right _ _ h) (omega (arith, l))
      form-before-spelled kind k (n_not e) h l = before-spelled bool_kind k e (and-right _ _ h) (omega (arith, l))
      form-before-spelled kind k (n_abs e) h l = before-spelled int_kind k e (and-right _ _ h) (omega (arith, l))
      form-before-spelled kind k (n_min a b) h l =
          two (before w k a) (before w (k + temps a) b) (before-spelled int_kind k a (and-right _ _ (and-left _ _ h)) (omega (arith, l))) (before-spelled int_kind (k + temps a) b (and-right _ _ h) (omega (arith, l)))
      form-before-spelled kind k (n_max a b) h l =
          two (before w k a) (before w (k + temps a) b) (before-spelled int_kind k a (and-right _ _ (and-left _ _ h)) (omega (arith, l))) (before-spelled int_kind (k + temps a) b (and-right _ _ h) (omega (arith, l)))
      form-before-spelled kind k (n_sum e es) h l =
          two (before w k e) (terms_before w (k + temps e) es) (before-spelled int_kind k e (and-right _ _ (and-left _ _ h)) (omega (arith, l))) (terms-before-spelled (k + temps e) es (and-right _ _ h) (omega (arith, l)))
      form-before-spelled kind k (n_product e es) h l =
          two (before w k e) (factors_before w (k + temps e) es) (before-spelled int_kind k e (and-right _ _ (and-left _ _ h)) (omega (arith, l))) (factors-before-spelled (k + temps e) es (and-right _ _ h) (omega (arith, l)))
      form-before-spelled kind k (n_compare a op b) h l =
          let hh = sides-fit n r kind op a b h in
          two (before w k a) (before w (k + temps a) b) (before-spelled hh.kind k a hh.left (omega (arith, l))) (before-spelled hh.kind (k + temps a) b hh.right (omega (arith, l)))
      form-before-spelled kind k (n_and es) h l = list-before-spelled k es (and-right _ _ h) (omega (arith, l))
      form-before-spelled kind k (n_or es) h l = list-before-spelled k es (and-right _ _ h) (omega (arith, l))
      form-before-spelled kind k (n_implies a b) h l =
          two (before w k a) (before w (k + temps a) b) (before-spelled bool_kind k a (and-right _ _ (and-left _ _ h)) (omega (arith, l))) (before-spelled bool_kind (k + temps a) b (and-right _ _ h) (omega (arith, l)))
      form-before-spelled kind k (n_iff a b) h l =
          two (before w k a) (before w (k + temps a) b) (before-spelled bool_kind k a (and-right _ _ (and-left _ _ h)) (omega (arith, l))) (before-spelled bool_kind (k + temps a) b (and-right _ _ h) (omega (arith, l)))
      form-before-spelled kind k (n_if bs e) h l =
          let last = stms (case_text (w.own k) (branches_text w (w.own k) (k + 1) bs) (text w (k + 1 + branches_temps bs) e)) no_stms in
          two (branches_before w (k + 1) bs) (append (before w (k + 1 + branches_temps bs) e) last) (branches-before-spelled kind (k + 1) bs (and-left _ _ h) (omega (arith, l)))
          (two (before w (k + 1 + branches_temps bs) e) last (before-spelled kind (k + 1 + branches_temps bs) e (and-right _ _ h) (omega (arith, l)))
          (case-spelled d k (branches_text w (w.own k) (k + 1) bs) (text w (k + 1 + branches_temps bs) e) (branches-spelled kind d k (k + 1) bs (and-left _ _ h) (omega (arith, l)))
          (whole kind (k + 1 + branches_temps bs) e (and-right _ _ h) (omega (arith, l)))))

      terms-before-spelled : (k : ℕ) (es : NetTerms) → terms_fit n r es ≡ true → (terms_measure alg es).depth ≤ 132 → Spelled (terms_before w k es)
      terms-before-spelled k no_net_terms h l = refl
      terms-before-spelled k (net_terms m e es) h l =
          two (before w k e) (terms_before w (k + temps e) es) (before-spelled int_kind k e (and-left _ _ h) (omega (arith, l))) (terms-before-spelled (k + temps e) es (and-right _ _ h) (omega (arith, l)))

      factors-before-spelled : (k : ℕ) (es : NetFactors) → factors_fit n r es ≡ true → (factors_measure alg es).depth ≤ 132 → Spelled (factors_before w k es)
      factors-before-spelled k no_net_factors h l = refl
      factors-before-spelled k (net_factors op e es) h l =
          two (before w k e) (factors_before w (k + temps e) es) (before-spelled int_kind k e (and-left _ _ h) (omega (arith, l))) (factors-before-spelled (k + temps e) es (and-right _ _ h) (omega (arith, l)))

      list-before-spelled : (k : ℕ) (es : NetExprs) → all_fit n r es ≡ true → (list_measure alg es).depth ≤ 132 → Spelled (list_before w k es)
      list-before-spelled k no_net_exprs h l = refl
      list-before-spelled k (net_exprs e es) h l =
          two (before w k e) (list_before w (k + temps e) es) (before-spelled bool_kind k e (and-left _ _ h) (omega (arith, l))) (list-before-spelled (k + temps e) es (and-right _ _ h) (omega (arith, l)))

      branches-before-spelled : (kind : Kind) (k : ℕ) (bs : NetBranches) → branches_fit n r kind bs ≡ true → (branches_measure alg bs).depth ≤ 132 → Spelled (branches_before w k bs)
      branches-before-spelled kind k no_net_branches h l = refl
      branches-before-spelled kind k (net_branches c e bs) h l =
          two (before w k c) (append (before w (k + temps c) e) (branches_before w (k + temps c + temps e) bs)) (before-spelled bool_kind k c (and-left _ _ (and-left _ _ h)) (omega (arith, l)))
          (two (before w (k + temps c) e) (branches_before w (k + temps c + temps e) bs) (before-spelled kind (k + temps c) e (and-right _ _ (and-left _ _ h)) (omega (arith, l)))
          (branches-before-spelled kind (k + temps c + temps e) bs (and-right _ _ h) (omega (arith, l))))

pub text-spelled : (w : Naming) (n : Net) (r : Option Ty) (kind : Kind) (e : NetExpr) (alg : ℕ → Measure) (k d : ℕ) → NamesAreSpelled w n → fits n r kind e ≡ true → 3 * (measure_by alg e).depth + 2 ≤ d → is_expr d at_or (text w k e) ≡ true
text-spelled w n r kind e alg k d names h l = expr-spelled w n names r alg kind k e h d l

pub statements-spelled : (w : Naming) (n : Net) (r : Option Ty) (kind : Kind) (e : NetExpr) (alg : ℕ → Measure) (k d : ℕ) → NamesAreSpelled w n → fits n r kind e ≡ true → (measure_by alg e).depth ≤ 132 → 1 ≤ d
    → are_stms d (before w k e) ≡ true
statements-spelled w n r kind e alg k zero names h l m = absurd (omega (arith, m))
statements-spelled w n r kind e alg k (suc d) names h l m = before-spelled w n names r alg d kind k e h l
