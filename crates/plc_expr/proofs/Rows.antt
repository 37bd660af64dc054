-- The texts of expressions, one for each form: what is computed is what an engineer would write.
use Rattle.std.proofs.Common.{◌≡◌, ℕ, pos, negsuc, true, false, ◌∷◌, ◌++◌, refl}
use Rattle.std.specs.Prelude.{codes, decimal}
use Rattle.std.specs.Fmt.{digits}
use Rattle.grammar.specs.Pieces.{Text}
use Rattle.cif_net_expr.specs.Tree.{eq, ne, lt, le, gt, ge, times, divided, modulo, NetExpr, net_expr, NetForm, n_truth, n_number, n_loc, n_var, n_input, n_received, n_minus, n_plus, n_not, n_abs, n_min, n_max, n_sum, n_product, n_compare, n_and, n_or, n_implies, n_iff, n_if, no_net_exprs, net_exprs, no_net_terms, net_terms, no_net_factors, net_factors, no_net_branches, net_branches}
use Rattle.st_ast.specs.Tree.{Expr, truth, number, named, paren, negation, complement, product, sum, order, equal, all_of, any_of, absolute, least, greatest, no_exprs, exprs, no_factors, factors, no_terms, terms, assign, choice, no_stms, stms, no_branches, branches, other}
use Rattle.st_ast.specs.declared.tree.StMul.TheVariants as mul
use Rattle.st_ast.specs.declared.tree.StOrder.TheVariants as cmp
use Rattle.plc_expr.specs.Texts.{Naming, text, before, temps}

abbrev name : ℕ → ℕ → Text
name l k = l ∷ decimal k

abbrev w : Naming
w = record {
  located = λ a p. equal (named (name 76 a ++ codes "_A")) true (number (pos p));
  variable = λ k. name 86 k;
  input = λ k. name 72 k;
  received = codes "S";
  own = λ k. name 84 k;
}

abbrev e : NetForm → NetExpr
e f = net_expr f 0

-- the text, its own variables being numbered from 5
abbrev shown : NetForm → Expr
shown f = text w 5 (e f)

abbrev x : NetExpr
x = e (n_var 0)

abbrev y : NetExpr
y = e (n_input 1)

abbrev X : Expr
X = named (codes "V0")

abbrev Y : Expr
Y = named (codes "H1")

abbrev at_2 : NetExpr
at_2 = e (n_loc 1 2)

abbrev At_2 : Expr
At_2 = equal (named (codes "L1_A")) true (number (pos 2))

abbrev one : NetExpr
one = e (n_number (pos 1))

abbrev if_at_2 : NetExpr
if_at_2 = e (n_if (net_branches at_2 one no_net_branches) x)

-- ---- names and literals

truths : shown (n_truth true) ≡ truth true
truths = refl

numbers : shown (n_number (pos 7)) ≡ number (pos 7)
numbers = refl

-- (-7)
negative_numbers : shown (n_number (negsuc 6)) ≡ paren (negation (number (pos 7)))
negative_numbers = refl

locations : shown (n_loc 1 2) ≡ At_2
unfolding digits
locations = refl

variables : shown (n_var 0) ≡ X
unfolding digits
variables = refl

inputs : shown (n_input 1) ≡ Y
unfolding digits
inputs = refl

received : shown n_received ≡ named (codes "S")
received = refl

-- ---- one operand

-- -V0
minus : shown (n_minus x) ≡ negation X
unfolding digits
minus = refl

-- -(-V0)
minus_minus : shown (n_minus (e (n_minus x))) ≡ negation (paren (negation X))
unfolding digits
minus_minus = refl

plus : shown (n_plus x) ≡ X
unfolding digits
plus = refl

-- NOT V0
nots : shown (n_not x) ≡ complement X
unfolding digits
nots = refl

-- NOT (L1_A = 2)
nots_of_tests : shown (n_not at_2) ≡ complement (paren At_2)
unfolding digits
nots_of_tests = refl

not_true : shown (n_not (e (n_truth true))) ≡ truth false
not_true = refl

-- ABS(V0 + H1)
absolutes : shown (n_abs (e (n_sum x (net_terms false y no_net_terms)))) ≡ absolute (sum X (terms false Y no_terms))
unfolding digits
absolutes = refl

-- ---- numbers

-- MIN(V0, 1)
minima : shown (n_min x one) ≡ least X (number (pos 1))
unfolding digits
minima = refl

-- MAX(V0, H1)
maxima : shown (n_max x y) ≡ greatest X Y
unfolding digits
maxima = refl

-- V0 + H1 - 1
sums : shown (n_sum x (net_terms false y (net_terms true one no_net_terms))) ≡ sum X (terms false Y (terms true (number (pos 1)) no_terms))
unfolding digits
sums = refl

-- V0 * H1 - (V0 - 1)
sums_of_others : shown (n_sum (e (n_product x (net_factors times y no_net_factors))) (net_terms true (e (n_sum x (net_terms true one no_net_terms))) no_net_terms))
    ≡ sum (product X (factors mul.Times Y no_factors)) (terms true (paren (sum X (terms true (number (pos 1)) no_terms))) no_terms)
unfolding digits
sums_of_others = refl

-- (-V0) + (-7)
sums_of_negatives : shown (n_sum (e (n_minus x)) (net_terms false (e (n_number (negsuc 6))) no_net_terms)) ≡ sum (paren (negation X)) (terms false (paren (negation (number (pos 7)))) no_terms)
unfolding digits
sums_of_negatives = refl

-- V0 * H1 / 1 MOD V0
products : shown (n_product x (net_factors times y (net_factors divided one (net_factors modulo x no_net_factors))))
    ≡ product X (factors mul.Times Y (factors mul.Div (number (pos 1)) (factors mul.Mod X no_factors)))
unfolding digits
products = refl

-- (V0 + 1) * MAX(V0, H1)
products_of_others : shown (n_product (e (n_sum x (net_terms false one no_net_terms))) (net_factors times (e (n_max x y)) no_net_factors))
    ≡ product (paren (sum X (terms false (number (pos 1)) no_terms))) (factors mul.Times (greatest X Y) no_factors)
unfolding digits
products_of_others = refl

-- ---- comparisons

-- V0 = H1
equal_numbers : shown (n_compare x eq y) ≡ equal X true Y
unfolding digits
equal_numbers = refl

-- V0 <> H1
other_numbers : shown (n_compare x ne y) ≡ equal X false Y
unfolding digits
other_numbers = refl

-- V0 + 1 < H1
less : shown (n_compare (e (n_sum x (net_terms false one no_net_terms))) lt y) ≡ order (sum X (terms false (number (pos 1)) no_terms)) cmp.Lt Y
unfolding digits
less = refl

at_most : shown (n_compare x le y) ≡ order X cmp.Le Y
unfolding digits
at_most = refl

greater : shown (n_compare x gt y) ≡ order X cmp.Gt Y
unfolding digits
greater = refl

at_least : shown (n_compare x ge y) ≡ order X cmp.Ge Y
unfolding digits
at_least = refl

-- V0 = (L1_A = 2)
equal_tests : shown (n_compare x eq at_2) ≡ equal X true (paren At_2)
unfolding digits
equal_tests = refl

-- ---- truth

-- L1_A = 2 AND V0 < H1
ands : shown (n_and (net_exprs at_2 (net_exprs (e (n_truth true)) (net_exprs (e (n_compare x lt y)) no_net_exprs)))) ≡ all_of (exprs At_2 (exprs (order X cmp.Lt Y) no_exprs))
unfolding digits
ands = refl

-- L1_A = 2 OR (V0 AND H1)
ors : shown (n_or (net_exprs at_2 (net_exprs (e (n_truth false)) (net_exprs (e (n_and (net_exprs x (net_exprs y no_net_exprs)))) no_net_exprs))))
    ≡ any_of (exprs At_2 (exprs (paren (all_of (exprs X (exprs Y no_exprs)))) no_exprs))
unfolding digits
ors = refl

false_alone : shown (n_or (net_exprs (e (n_truth false)) no_net_exprs)) ≡ truth false
false_alone = refl

-- NOT (L1_A = 2) OR V0
implications : shown (n_implies at_2 x) ≡ any_of (exprs (complement (paren At_2)) (exprs X no_exprs))
unfolding digits
implications = refl

true_implies : shown (n_implies (e (n_truth true)) x) ≡ X
unfolding digits
true_implies = refl

false_implies : shown (n_implies (e (n_truth false)) x) ≡ truth true
unfolding digits
false_implies = refl

-- (L1_A = 2) = V0
equivalences : shown (n_iff at_2 x) ≡ equal (paren At_2) true X
unfolding digits
equivalences = refl

-- ---- if

-- T5, where IF L1_A = 2 THEN T5 := 1; ELSE T5 := V0; END_IF; stands before
ifs : text w 5 if_at_2 ≡ named (codes "T5")
unfolding digits
ifs = refl

before_ifs : before w 5 if_at_2
    ≡ stms (choice (branches At_2 (stms (assign (codes "T5") (number (pos 1))) no_stms) no_branches) (other (stms (assign (codes "T5") X) no_stms))) no_stms
unfolding digits
before_ifs = refl

-- T5 + T6 * H1
sums_of_ifs : text w 5 (e (n_sum if_at_2 (net_terms false (e (n_product if_at_2 (net_factors times y no_net_factors))) no_net_terms)))
    ≡ sum (named (codes "T5")) (terms false (product (named (codes "T6")) (factors mul.Times Y no_factors)) no_terms)
unfolding digits
sums_of_ifs = refl

-- An `if` within another: T6 is set before the IF that reads it.
before_nested_ifs : before w 5 (e (n_if (net_branches (e (n_compare if_at_2 lt y)) one (net_branches y x no_net_branches)) x))
    ≡ stms (choice (branches At_2 (stms (assign (codes "T6") (number (pos 1))) no_stms) no_branches) (other (stms (assign (codes "T6") X) no_stms)))
    (stms (choice (branches (order (named (codes "T6")) cmp.Lt Y) (stms (assign (codes "T5") (number (pos 1))) no_stms) (branches Y (stms (assign (codes "T5") X) no_stms) no_branches))
    (other (stms (assign (codes "T5") X) no_stms))) no_stms)
unfolding digits
before_nested_ifs = refl

nested_temps : temps (e (n_if (net_branches (e (n_compare if_at_2 lt y)) one (net_branches y x no_net_branches)) x)) ≡ 2
nested_temps = refl
