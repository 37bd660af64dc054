-- Worked examples of the definitions, by computation.
use Rattle.std.proofs.Common.{◌≡◌, ℕ, pos, negsuc, true, false, List, [], ◌∷◌, Some, None, Ok, Err, refl}
use Rattle.std.specs.Prelude.{ℤ, Bool, Result, codes, map}
use Rattle.grammar.specs.Pieces.{Text}
use Rattle.st_ast.specs.declared.tree.StVar.{StVar}
use Rattle.st_ast.specs.declared.tree.StTy.{StTy}
use Rattle.st_ast.specs.declared.tree.StTy.TheVariants as ty
use Rattle.st_ast.specs.declared.tree.StLit.{StLit}
use Rattle.st_ast.specs.declared.tree.StLit.TheVariants as lit
use Rattle.st_ast.specs.declared.tree.StClass.{StClass}
use Rattle.st_ast.specs.declared.tree.StClass.TheVariants as class
use Rattle.st_ast.specs.declared.tree.StMul.{StMul}
use Rattle.st_ast.specs.declared.tree.StMul.TheVariants as mul
use Rattle.st_ast.specs.declared.tree.StOrder.{StOrder}
use Rattle.st_ast.specs.declared.tree.StOrder.TheVariants as cmp
use Rattle.st_ast.specs.Tree.{Expr, truth, number, named, negation, complement, product, sum, order, equal, all_of, odd_of, any_of, absolute, least, greatest, selection, Exprs, exprs, no_exprs, factors, no_factors, terms, no_terms, Stm, Stms, assign, choice, loop, stms_of, branches, no_branches, other, Program}
use Rattle.st_ast.specs.Tokens.{sign, blank, opens_comment, kind_of_word, kind_of_number, kind_of_sign}
use Rattle.st_ast.specs.declared.kinds.TokenKind.TheVariants as kinds
use Rattle.st_ast.specs.Grammar.{products, sums, orders, equalities, mul_of, is_minus, order_of, is_equality}
use Rattle.st_ast.specs.Checks.{unknown, duplicate, mismatch, not_assignable, init_range, boolean, integer, check_faults, sort_of, knows}
use Rattle.st_ast.specs.Interface.{output_values}
use Rattle.st_ast.specs.Values.{Fault, overflow, zero_divide, subrange_left, checked, number_value, value_of}
use Rattle.st_ast.specs.Exec.{Outcome, Ended, Faulted, OutOfTurns, repeated, exec}
use Rattle.st_ast.specs.Scan.{start_memory, scan_of, store_row}

abbrev variable : Text → StClass → StTy → StVar
variable x k t = record { name = x; class = k; ty = t; init = None; at = None }

abbrev program_with : List StVar → List Stm → Program
program_with vars body = record { name = codes "p"; vars = vars; body = stms_of body }

-- ---- words and numbers

keywords_ignore_case : kind_of_word (codes "if") ≡ kinds.If
keywords_ignore_case = refl

two_underscores_are_no_name : kind_of_word (codes "a__b") ≡ kinds.Outside
two_underscores_are_no_name = refl

a_last_underscore_is_no_name : kind_of_word (codes "a_") ≡ kinds.Outside
a_last_underscore_is_no_name = refl

a_first_underscore_is_one : kind_of_word (codes "_a") ≡ kinds.Name
a_first_underscore_is_one = refl

another_word_is_reserved : kind_of_word (codes "Case") ≡ kinds.Outside
another_word_is_reserved = refl

a_word_of_the_grammar : kind_of_word (codes "var_Input") ≡ kinds.VarInput
a_word_of_the_grammar = refl

signs_have_kinds : map kind_of_sign (codes "<>" ∷ codes "<=" ∷ codes ">=" ∷ codes ">" ∷ codes "*" ∷ codes "/" ∷ codes "&" ∷ []) ≡ kinds.Differs ∷ kinds.AtMost ∷ kinds.AtLeast ∷ kinds.Greater ∷ kinds.Times ∷ kinds.Slash ∷ kinds.And ∷ []
signs_have_kinds = refl

the_greatest_number : kind_of_number (codes "9223372036854775807") ≡ kinds.Literal
the_greatest_number = refl

a_greater_number : kind_of_number (codes "9223372036854775808") ≡ kinds.Outside
a_greater_number = refl

a_parenthesis_and_a_star : opens_comment (sign (codes "(") ∷ sign (codes "*") ∷ []) ≡ true
a_parenthesis_and_a_star = refl

a_parenthesis_and_a_blank : opens_comment (sign (codes "(") ∷ blank ∷ sign (codes "*") ∷ []) ≡ false
a_parenthesis_and_a_blank = refl

-- ---- checks

undeclared_target : check_faults (program_with [] (assign (codes "x") (number (pos 1)) ∷ [])) ≡ unknown 0 ∷ mismatch 0 ∷ []
undeclared_target = refl

same_name_in_another_case : check_faults (program_with (variable (codes "x") class.Plain ty.Lint ∷ variable (codes "X") class.Plain ty.Bool ∷ []) []) ≡ duplicate 1 ∷ []
same_name_in_another_case = refl

number_for_a_truth : check_faults (program_with (variable (codes "x") class.Plain ty.Bool ∷ []) (assign (codes "x") (number (pos 1)) ∷ [])) ≡ mismatch 0 ∷ []
number_for_a_truth = refl

input_as_target : check_faults (program_with (variable (codes "x") class.Input ty.Bool ∷ []) (assign (codes "x") (truth true) ∷ [])) ≡ not_assignable 0 ∷ []
input_as_target = refl

constant_as_target : check_faults (program_with (variable (codes "x") class.Constant ty.Bool ∷ []) (assign (codes "x") (truth true) ∷ [])) ≡ not_assignable 0 ∷ []
constant_as_target = refl

output_as_target : check_faults (program_with (variable (codes "x") class.Output ty.Bool ∷ []) (assign (codes "x") (truth true) ∷ [])) ≡ []
output_as_target = refl

order_of_truths : check_faults (program_with (variable (codes "x") class.Plain ty.Bool ∷ []) (assign (codes "x") (order (truth true) cmp.Ge (truth false)) ∷ [])) ≡ mismatch 0 ∷ []
order_of_truths = refl

truths_may_be_unequal : check_faults (program_with (variable (codes "x") class.Plain ty.Bool ∷ []) (assign (codes "x") (equal (truth true) false (truth false)) ∷ [])) ≡ []
truths_may_be_unequal = refl

first_value_out_of_range : check_faults (program_with (record { name = codes "x"; class = class.Plain; ty = ty.Range (pos 0) (pos 3); init = Some (lit.Int (pos 4)); at = None } ∷ []) []) ≡ init_range 0 ∷ []
first_value_out_of_range = refl

-- a statement inside a loop has a number of its own
inner_statement_is_numbered : check_faults (program_with [] (loop (truth true) (stms_of (assign (codes "x") (number (pos 1)) ∷ [])) ∷ [])) ≡ unknown 1 ∷ mismatch 1 ∷ []
inner_statement_is_numbered = refl

-- ---- values and statements

abbrev x_of : StTy → StLit → StVar
x_of t v = record { name = codes "x"; class = class.Plain; ty = t; init = Some v; at = None }

sum_out_of_64_bits : value_of [] (sum (number (pos 9223372036854775807)) (terms false (number (pos 1)) no_terms)) [] ≡ Err overflow
sum_out_of_64_bits = refl

-- in a program of 32 bits
numbers_of_32_bits : map (λ z. number_value 32 z) (pos 2147483647 ∷ pos 2147483648 ∷ negsuc 2147483647 ∷ negsuc 2147483648 ∷ []) ≡ Ok (pos 2147483647) ∷ Err overflow ∷ Ok (negsuc 2147483647) ∷ Err overflow ∷ []
numbers_of_32_bits = refl

results_of_32_bits : checked 32 (pos 2147483648) ∷ checked 32 (negsuc 2147483647) ∷ checked 64 (pos 2147483648) ∷ [] ≡ Err overflow ∷ Ok (negsuc 2147483647) ∷ Ok (pos 2147483648) ∷ []
results_of_32_bits = refl

-- 1, 2 and 3 beside 2
abbrev beside_two : StOrder → List (Result ℤ Fault)
beside_two op = map (λ z. value_of [] (order (number z) op (number (pos 2))) []) (pos 1 ∷ pos 2 ∷ pos 3 ∷ [])

less_than_two : beside_two cmp.Lt ≡ Ok (pos 1) ∷ Ok (pos 0) ∷ Ok (pos 0) ∷ []
less_than_two = refl

greater_than_two : beside_two cmp.Gt ≡ Ok (pos 0) ∷ Ok (pos 0) ∷ Ok (pos 1) ∷ []
greater_than_two = refl

at_most_two : beside_two cmp.Le ≡ Ok (pos 1) ∷ Ok (pos 1) ∷ Ok (pos 0) ∷ []
at_most_two = refl

at_least_two : beside_two cmp.Ge ≡ Ok (pos 0) ∷ Ok (pos 1) ∷ Ok (pos 1) ∷ []
at_least_two = refl

negative_numbers_in_order : value_of [] (order (number (negsuc 1)) cmp.Lt (number (negsuc 0))) [] ≡ Ok (pos 1)
negative_numbers_in_order = refl

unequal_numbers : value_of [] (equal (number (pos 1)) false (number (pos 2))) [] ≡ Ok (pos 1)
unequal_numbers = refl

equal_numbers_are_not_unequal : value_of [] (equal (number (pos 2)) false (number (pos 2))) [] ≡ Ok (pos 0)
equal_numbers_are_not_unequal = refl

-- 10 - 3 - 2
subtraction_from_the_left : value_of [] (sum (number (pos 10)) (terms true (number (pos 3)) (terms true (number (pos 2)) no_terms))) [] ≡ Ok (pos 5)
subtraction_from_the_left = refl

difference_out_of_64_bits : value_of [] (sum (number (negsuc 9223372036854775807)) (terms true (number (pos 1)) no_terms)) [] ≡ Err overflow
difference_out_of_64_bits = refl

the_least_number_has_64_bits : value_of [] (sum (number (negsuc 9223372036854775806)) (terms true (number (pos 1)) no_terms)) [] ≡ Ok (negsuc 9223372036854775807)
the_least_number_has_64_bits = refl

-- no operand is left out, though the first decides
all_operands_are_evaluated : value_of [] (all_of (exprs (truth false) (exprs (equal (sum (number (pos 9223372036854775807)) (terms false (number (pos 1)) no_terms)) true (number (pos 0))) no_exprs))) [] ≡ Err overflow
all_operands_are_evaluated = refl

-- ---- products

abbrev over : ℤ → StMul → ℤ → Result ℤ Fault
over a op b = value_of [] (product (number a) (factors op (number b) no_factors)) []

division_rounds_towards_zero : over (pos 7) mul.Div (pos 2) ∷ over (negsuc 6) mul.Div (pos 2) ∷ over (pos 7) mul.Div (negsuc 1) ∷ over (negsuc 6) mul.Div (negsuc 1) ∷ [] ≡ Ok (pos 3) ∷ Ok (negsuc 2) ∷ Ok (negsuc 2) ∷ Ok (pos 3) ∷ []
division_rounds_towards_zero = refl

remainder_has_the_sign_of_the_dividend : over (pos 7) mul.Mod (pos 2) ∷ over (negsuc 6) mul.Mod (pos 2) ∷ over (pos 7) mul.Mod (negsuc 1) ∷ over (negsuc 6) mul.Mod (negsuc 1) ∷ [] ≡ Ok (pos 1) ∷ Ok (negsuc 0) ∷ Ok (pos 1) ∷ Ok (negsuc 0) ∷ []
remainder_has_the_sign_of_the_dividend = refl

division_by_zero_is_a_fault : over (pos 7) mul.Div (pos 0) ≡ Err zero_divide
division_by_zero_is_a_fault = refl

remainder_by_zero_is_zero : over (pos 7) mul.Mod (pos 0) ≡ Ok (pos 0)
remainder_by_zero_is_zero = refl

least_number_by_minus_one : over (negsuc 9223372036854775807) mul.Div (negsuc 0) ∷ over (negsuc 9223372036854775807) mul.Mod (negsuc 0) ∷ [] ≡ Err overflow ∷ Ok (pos 0) ∷ []
least_number_by_minus_one = refl

product_out_of_64_bits : over (pos 4294967296) mul.Times (pos 2147483648) ∷ over (negsuc 4294967295) mul.Times (pos 2147483648) ∷ [] ≡ Err overflow ∷ Ok (negsuc 9223372036854775807) ∷ []
product_out_of_64_bits = refl

-- 7 / 2 * 2
products_go_from_the_left : value_of [] (product (number (pos 7)) (factors mul.Div (number (pos 2)) (factors mul.Times (number (pos 2)) no_factors))) [] ≡ Ok (pos 6)
products_go_from_the_left = refl

-- 9223372036854775807 * 2 / 0: the product so far has its fault before the next operand
first_fault_of_a_product : value_of [] (product (number (pos 9223372036854775807)) (factors mul.Times (number (pos 2)) (factors mul.Div (number (pos 0)) no_factors))) [] ≡ Err overflow
first_fault_of_a_product = refl

-- ---- the other operators

minus_a_number : value_of [] (negation (number (pos 3))) [] ≡ Ok (negsuc 2)
minus_a_number = refl

minus_the_least_number : value_of [] (negation (number (negsuc 9223372036854775807))) [] ≡ Err overflow
minus_the_least_number = refl

absolute_values : map (λ z. value_of [] (absolute (number z)) []) (pos 3 ∷ negsuc 2 ∷ negsuc 9223372036854775807 ∷ []) ≡ Ok (pos 3) ∷ Ok (pos 3) ∷ Err overflow ∷ []
absolute_values = refl

least_and_greatest : value_of [] (least (number (negsuc 4)) (number (pos 3))) [] ∷ value_of [] (greatest (number (negsuc 4)) (number (pos 3))) [] ∷ [] ≡ Ok (negsuc 4) ∷ Ok (pos 3) ∷ []
least_and_greatest = refl

not_a_truth : value_of [] (complement (truth true)) [] ∷ value_of [] (complement (truth false)) [] ∷ [] ≡ Ok (pos 0) ∷ Ok (pos 1) ∷ []
not_a_truth = refl

-- of three truths XOR holds where one or all three do
abbrev three : Bool → Bool → Bool → Exprs
three a b c = exprs (truth a) (exprs (truth b) (exprs (truth c) no_exprs))

an_odd_number_of_truths : value_of [] (odd_of (three true true true)) [] ∷ value_of [] (odd_of (three true true false)) [] ∷ value_of [] (odd_of (three false true false)) [] ∷ value_of [] (odd_of (three false false false)) [] ∷ [] ≡ Ok (pos 1) ∷ Ok (pos 0) ∷ Ok (pos 1) ∷ Ok (pos 0) ∷ []
an_odd_number_of_truths = refl

any_truth : value_of [] (any_of (three false true false)) [] ∷ value_of [] (any_of (three false false false)) [] ∷ [] ≡ Ok (pos 1) ∷ Ok (pos 0) ∷ []
any_truth = refl

-- SEL(g, 4, 5)
selects_by_the_first : value_of [] (selection (truth false) (number (pos 4)) (number (pos 5))) [] ∷ value_of [] (selection (truth true) (number (pos 4)) (number (pos 5))) [] ∷ [] ≡ Ok (pos 4) ∷ Ok (pos 5) ∷ []
selects_by_the_first = refl

-- SEL(FALSE, 4, 1 / 0): what is not selected is evaluated too
abbrev by_zero : Expr
by_zero = product (number (pos 1)) (factors mul.Div (number (pos 0)) no_factors)

selection_evaluates_all : value_of [] (selection (truth false) (number (pos 4)) by_zero) [] ∷ value_of [] (selection (truth true) by_zero (number (pos 4))) [] ∷ [] ≡ Err zero_divide ∷ Err zero_divide ∷ []
selection_evaluates_all = refl

-- SEL(g, TRUE, 1)
selection_of_two_sorts : check_faults (program_with (variable (codes "x") class.Plain ty.Bool ∷ []) (assign (codes "x") (selection (truth true) (truth true) (number (pos 1))) ∷ [])) ≡ mismatch 0 ∷ []
selection_of_two_sorts = refl

selection_by_a_number : check_faults (program_with (variable (codes "x") class.Plain ty.Bool ∷ []) (assign (codes "x") (selection (number (pos 1)) (truth true) (truth true)) ∷ [])) ≡ mismatch 0 ∷ []
selection_by_a_number = refl

selection_has_the_sort_of_its_values : check_faults (program_with (variable (codes "x") class.Plain ty.Bool ∷ []) (assign (codes "x") (selection (truth true) (truth true) (truth true)) ∷ [])) ≡ []
selection_has_the_sort_of_its_values = refl

-- MOD, unary minus, ABS, MIN and MAX take integers, XOR takes truths
abbrev sorts_for_a_number : List Expr
sorts_for_a_number = product (truth true) (factors mul.Mod (number (pos 2)) no_factors) ∷ product (number (pos 2)) (factors mul.Mod (truth true) no_factors) ∷ negation (truth true) ∷ absolute (truth true) ∷ least (truth true) (number (pos 1)) ∷ greatest (number (pos 1)) (truth true) ∷ odd_of (exprs (truth true) (exprs (number (pos 1)) no_exprs)) ∷ []

wrong_sorts : map (λ e. sort_of [] e) sorts_for_a_number ≡ None ∷ None ∷ None ∷ None ∷ None ∷ None ∷ None ∷ []
wrong_sorts = refl

-- ---- truths and comparisons of values

abbrev both_ways : (Expr → Expr → Expr) → List (Result ℤ Fault)
both_ways make = value_of [] (make (number (negsuc 1)) (number (negsuc 1))) [] ∷ value_of [] (make (number (negsuc 0)) (number (negsuc 1))) [] ∷ value_of [] (make (number (pos 1)) (number (negsuc 1))) [] ∷ []

-- -2, -1 and 1 beside -2
equal_to_minus_two : both_ways (λ a b. equal a true b) ≡ Ok (pos 1) ∷ Ok (pos 0) ∷ Ok (pos 0) ∷ []
equal_to_minus_two = refl

at_most_minus_two : both_ways (λ a b. order a cmp.Le b) ≡ Ok (pos 1) ∷ Ok (pos 0) ∷ Ok (pos 0) ∷ []
at_most_minus_two = refl

all_truths : value_of [] (all_of (three true true true)) [] ∷ value_of [] (all_of (three true true false)) [] ∷ value_of [] (all_of (three false true true)) [] ∷ [] ≡ Ok (pos 1) ∷ Ok (pos 0) ∷ Ok (pos 0) ∷ []
all_truths = refl

two_truths_of_three : value_of [] (any_of (three true true false)) [] ≡ Ok (pos 1)
two_truths_of_three = refl

least_and_greatest_turned : value_of [] (least (number (pos 3)) (number (negsuc 3))) [] ∷ value_of [] (greatest (number (pos 3)) (number (negsuc 3))) [] ∷ [] ≡ Ok (negsuc 3) ∷ Ok (pos 3) ∷ []
least_and_greatest_turned = refl

minus_minus_three : value_of [] (negation (negation (number (pos 3)))) [] ≡ Ok (pos 3)
minus_minus_three = refl

-- ---- every operand is evaluated, from left to right: of two faults the first is told

-- 9223372036854775807 + 1
abbrev too_great : Expr
too_great = sum (number (pos 9223372036854775807)) (terms false (number (pos 1)) no_terms)

-- 1 / 0 = 1
abbrev by_zero_is_one : Expr
by_zero_is_one = equal by_zero true (number (pos 1))

-- ... = 0
abbrev too_great_is_zero : Expr
too_great_is_zero = equal too_great true (number (pos 0))

first_of_two_faults : map (λ e. value_of [] e []) (order too_great cmp.Lt by_zero ∷ equal by_zero true too_great ∷ least by_zero too_great ∷ greatest too_great by_zero ∷ all_of (exprs by_zero_is_one (exprs too_great_is_zero no_exprs)) ∷ [])
    ≡ Err overflow ∷ Err zero_divide ∷ Err zero_divide ∷ Err overflow ∷ Err zero_divide ∷ []
first_of_two_faults = refl

no_operand_decides_alone : map (λ e. value_of [] e []) (any_of (exprs (truth true) (exprs by_zero_is_one no_exprs)) ∷ odd_of (exprs (truth true) (exprs by_zero_is_one no_exprs)) ∷ [])
    ≡ Err zero_divide ∷ Err zero_divide ∷ []
no_operand_decides_alone = refl

selection_from_the_left : map (λ e. value_of [] e []) (selection (truth true) too_great by_zero ∷ selection by_zero_is_one too_great (number (pos 0)) ∷ []) ≡ Err overflow ∷ Err zero_divide ∷ []
selection_from_the_left = refl

-- 9223372036854775807 + 1 - 1 and 9223372036854775807 + 1 + 1 / 0: a sum so far has its fault before the next operand
first_fault_of_a_sum : map (λ e. value_of [] (sum (number (pos 9223372036854775807)) (terms false (number (pos 1)) e)) []) (terms true (number (pos 1)) no_terms ∷ terms false by_zero no_terms ∷ [])
    ≡ Err overflow ∷ Err overflow ∷ []
first_fault_of_a_sum = refl

-- ---- sorts

right_numbers : map (λ e. sort_of [] e) (product (number (pos 2)) (factors mul.Times (number (pos 3)) no_factors) ∷ negation (number (pos 1)) ∷ absolute (number (pos 1)) ∷ least (number (pos 1)) (number (pos 2)) ∷ greatest (number (pos 1)) (number (pos 2)) ∷ selection (truth true) (number (pos 1)) (number (pos 2)) ∷ [])
    ≡ Some integer ∷ Some integer ∷ Some integer ∷ Some integer ∷ Some integer ∷ Some integer ∷ []
right_numbers = refl

right_truths : map (λ e. sort_of [] e) (complement (truth true) ∷ odd_of (three true true true) ∷ order (number (pos 1)) cmp.Ge (number (pos 2)) ∷ []) ≡ Some boolean ∷ Some boolean ∷ Some boolean ∷ []
right_truths = refl

more_wrong_sorts : map (λ e. sort_of [] e) (complement (number (pos 1)) ∷ sum (truth true) (terms false (number (pos 1)) no_terms) ∷ equal (number (pos 1)) true (truth true) ∷ all_of (exprs (truth true) (exprs (number (pos 1)) no_exprs)) ∷ any_of (exprs (number (pos 1)) (exprs (truth true) no_exprs)) ∷ least (number (pos 1)) (truth true) ∷ greatest (truth true) (number (pos 1)) ∷ [])
    ≡ None ∷ None ∷ None ∷ None ∷ None ∷ None ∷ None ∷ []
more_wrong_sorts = refl

-- an undeclared name at each place
abbrev unnamed : Expr
unnamed = named (codes "y")

no_name_is_missed : map (λ e. knows [] e) (negation unnamed ∷ complement unnamed ∷ absolute unnamed ∷ product (number (pos 1)) (factors mul.Mod unnamed no_factors) ∷ odd_of (exprs (truth true) (exprs unnamed no_exprs)) ∷ least unnamed (number (pos 1)) ∷ least (number (pos 1)) unnamed ∷ greatest unnamed (number (pos 1)) ∷ greatest (number (pos 1)) unnamed ∷ selection unnamed (number (pos 1)) (number (pos 1)) ∷ selection (truth true) unnamed (number (pos 1)) ∷ selection (truth true) (number (pos 1)) unnamed ∷ [])
    ≡ false ∷ false ∷ false ∷ false ∷ false ∷ false ∷ false ∷ false ∷ false ∷ false ∷ false ∷ false ∷ []
no_name_is_missed = refl

number_for_a_truth_that_is_an_input : check_faults (program_with (variable (codes "x") class.Input ty.Bool ∷ []) (assign (codes "x") (number (pos 1)) ∷ [])) ≡ mismatch 0 ∷ not_assignable 0 ∷ []
number_for_a_truth_that_is_an_input = refl

-- ---- statements

-- x := z
abbrev sets : ℤ → Stms
sets z = stms_of (assign (codes "x") (number z) ∷ [])

abbrev with_x : List Stm → ℕ → Outcome
with_x body turns = exec (x_of ty.Lint (lit.Int (pos 0)) ∷ []) (stms_of body) turns (pos 0 ∷ [])

-- the conditions after a true one are not evaluated
second_branch_is_taken : with_x (choice (branches (truth false) (sets (pos 1)) (branches (truth true) (sets (pos 2)) (branches by_zero_is_one (sets (pos 3)) no_branches))) (other (sets (pos 4))) ∷ []) 9 ≡ Ended 9 (pos 2 ∷ [])
second_branch_is_taken = refl

last_part_is_taken : with_x (choice (branches (truth false) (sets (pos 1)) no_branches) (other (sets (pos 4))) ∷ []) 9 ≡ Ended 9 (pos 4 ∷ [])
last_part_is_taken = refl

fault_of_a_condition : with_x (choice (branches by_zero_is_one (sets (pos 1)) no_branches) (other (sets (pos 4))) ∷ []) 9 ≡ Faulted zero_divide
fault_of_a_condition = refl

-- the condition is evaluated before a turn is asked for
condition_before_the_turn : with_x (loop by_zero_is_one (sets (pos 1)) ∷ []) 0 ∷ with_x (loop (truth false) (sets (pos 1)) ∷ []) 0 ∷ with_x (loop (truth true) (sets (pos 1)) ∷ []) 0 ∷ [] ≡ Faulted zero_divide ∷ Ended 0 (pos 0 ∷ []) ∷ OutOfTurns ∷ []
unfolding repeated
condition_before_the_turn = refl

-- WHILE x < n DO x := x + 1
abbrev counts_to : ℤ → Stm
counts_to n = loop (order (named (codes "x")) cmp.Lt (number n)) (stms_of (assign (codes "x") (sum (named (codes "x")) (terms false (number (pos 1)) no_terms)) ∷ []))

three_turns_are_enough : with_x (counts_to (pos 3) ∷ []) 3 ∷ with_x (counts_to (pos 3) ∷ []) 2 ∷ [] ≡ Ended 0 (pos 3 ∷ []) ∷ OutOfTurns ∷ []
unfolding repeated
three_turns_are_enough = refl

loops_share_the_turns : with_x (counts_to (pos 2) ∷ counts_to (pos 4) ∷ []) 3 ∷ with_x (counts_to (pos 2) ∷ counts_to (pos 4) ∷ []) 4 ∷ [] ≡ OutOfTurns ∷ Ended 0 (pos 4 ∷ []) ∷ []
unfolding repeated
loops_share_the_turns = refl

first_value_of_a_constant : start_memory (program_with (record { name = codes "x"; class = class.Constant; ty = ty.Lint; init = Some (lit.Int (pos 7)); at = None } ∷ []) []) ≡ pos 7 ∷ []
first_value_of_a_constant = refl

-- ---- words and signs of the grammar

words_have_kinds : map kind_of_word (codes "CONSTANT" ∷ codes "NOT" ∷ codes "AND" ∷ codes "XOR" ∷ codes "OR" ∷ codes "MOD" ∷ codes "ABS" ∷ codes "MIN" ∷ codes "MAX" ∷ codes "SEL" ∷ codes "_" ∷ [])
    ≡ kinds.Constant ∷ kinds.Not ∷ kinds.And ∷ kinds.Xor ∷ kinds.Or ∷ kinds.Mod ∷ kinds.Abs ∷ kinds.Min ∷ kinds.Max ∷ kinds.Sel ∷ kinds.Outside ∷ []
words_have_kinds = refl

orders_of_signs : map order_of orders ≡ cmp.Lt ∷ cmp.Gt ∷ cmp.Le ∷ cmp.Ge ∷ []
orders_of_signs = refl

products_of_signs : map mul_of products ≡ mul.Times ∷ mul.Div ∷ mul.Mod ∷ []
products_of_signs = refl

sums_and_equalities_of_signs : map is_minus sums ∷ map is_equality equalities ∷ [] ≡ (false ∷ true ∷ []) ∷ (true ∷ false ∷ []) ∷ []
sums_and_equalities_of_signs = refl

-- ---- names

name_in_another_case : value_of (x_of ty.Lint (lit.Int (pos 7)) ∷ []) (named (codes "X")) (pos 7 ∷ []) ≡ Ok (pos 7)
name_in_another_case = refl

value_leaves_its_subrange : scan_of (program_with (x_of (ty.Range (pos 0) (pos 3)) (lit.Int (pos 3)) ∷ []) (assign (codes "x") (sum (named (codes "x")) (terms false (number (pos 1)) no_terms)) ∷ [])) (pos 3 ∷ []) [] ≡ Faulted (subrange_left 0 (pos 4))
value_leaves_its_subrange = refl

-- a loop without an end takes every turn
endless_loop : exec [] (stms_of (loop (truth true) (stms_of []) ∷ [])) 1000 [] ≡ OutOfTurns
unfolding repeated
endless_loop = refl

loop_takes_a_turn_each : exec (x_of ty.Lint (lit.Int (pos 0)) ∷ []) (stms_of (loop (order (named (codes "x")) cmp.Lt (number (pos 3))) (stms_of (assign (codes "x") (sum (named (codes "x")) (terms false (number (pos 1)) no_terms)) ∷ [])) ∷ [])) 10 (pos 0 ∷ []) ≡ Ended 7 (pos 3 ∷ [])
unfolding repeated
loop_takes_a_turn_each = refl

first_values : start_memory (program_with (variable (codes "a") class.Plain ty.Bool ∷ variable (codes "b") class.Plain ty.Lint ∷ variable (codes "c") class.Plain (ty.Range (negsuc 2) (pos 5)) ∷ []) []) ≡ pos 0 ∷ pos 0 ∷ negsuc 2 ∷ []
first_values = refl

-- the inputs alone take over a row
row_goes_to_inputs : store_row (variable (codes "a") class.Plain ty.Lint ∷ variable (codes "b") class.Input ty.Lint ∷ variable (codes "c") class.Input ty.Lint ∷ []) (pos 7 ∷ pos 8 ∷ []) (pos 1 ∷ pos 2 ∷ pos 3 ∷ []) ≡ pos 1 ∷ pos 7 ∷ pos 8 ∷ []
row_goes_to_inputs = refl

abbrev input_and_output : List StVar
input_and_output = variable (codes "i") class.Input ty.Lint ∷ variable (codes "o") class.Output ty.Lint ∷ []

scan_with_an_input : scan_of (program_with input_and_output (assign (codes "o") (sum (named (codes "i")) (terms true (number (pos 1)) no_terms)) ∷ [])) (pos 0 ∷ pos 0 ∷ []) (pos 7 ∷ []) ≡ Ended 1000000 (pos 7 ∷ pos 6 ∷ [])
scan_with_an_input = refl

outputs_alone_are_shown : output_values input_and_output (pos 7 ∷ pos 6 ∷ []) ≡ pos 6 ∷ []
outputs_alone_are_shown = refl
