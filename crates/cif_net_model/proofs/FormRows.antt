-- Worked examples of each form of expression: its value, interval, names, parts, size and depth.
use Rattle.std.proofs.Common.{◌≡◌, ℕ, ◌+◌, ℤ, zero, suc, pos, negsuc, Bool, true, false, List, [], ◌∷◌, map, refl}
use Rattle.cif_system.specs.System.{Range, outputs}
use Rattle.cif_net_expr.specs.Tree.{eq, ne, lt, le, gt, ge, times, divided, modulo, NetExpr, net_expr, NetForm, n_truth, n_number, n_loc, n_var, n_input, n_alg, n_received, n_minus, n_plus, n_not, n_abs, n_min, n_max, n_sum, n_product, n_compare, n_and, n_or, n_implies, n_iff, n_if, no_net_exprs, net_exprs, no_net_terms, net_terms, no_net_factors, net_factors, no_net_branches, net_branches}
use Rattle.cif_net_model.specs.Net.{by_loc, Net}
use Rattle.cif_net_model.specs.Value.{net_value}
use Rattle.cif_net_model.specs.Meaning.{value_in, system_of_net}
use Rattle.cif_net_model.specs.Interval.{point, between, mul_ranges, range_of}
use Rattle.cif_net_model.specs.Reads.{a_var, an_input, an_alg, a_place, the_received, names_in, reads}
use Rattle.cif_net_model.specs.Parts.{parts, divisors, is_narrow}
use Rattle.cif_net_model.specs.Counts.{measure, depth, nodes, stopped, most_choices, is_too_large}
use Rattle.cif_net_model.specs.Rules.{TooLarge}
use Rattle.cif_net_model.proofs.CycleLaws.{acyclic-by_number}
use Rattle.cif_net_model.proofs.Examples.{here, sure, num, var, plus, alg, algs_alone, by_place, with_values}

-- ---- values

abbrev value : NetForm → ℤ
value f = net_value (λ k. pos 10) (record { locs = 1 ∷ []; vals = pos 5 ∷ negsuc 6 ∷ []; ins = pos 3 ∷ [] }) (pos 4) (here f)

abbrev names : List ℤ
names = map value (n_var 0 ∷ n_var 1 ∷ n_input 0 ∷ n_alg 0 ∷ n_received ∷ n_loc 0 1 ∷ n_loc 0 0 ∷ [])

names_have_values : names ≡ pos 5 ∷ negsuc 6 ∷ pos 3 ∷ pos 10 ∷ pos 4 ∷ pos 1 ∷ pos 0 ∷ []
names_have_values = refl

one_operand : map value (n_minus (var 0) ∷ n_plus (var 1) ∷ n_abs (var 1) ∷ n_abs (var 0) ∷ n_not sure ∷ n_not (here (n_not sure)) ∷ []) ≡ negsuc 4 ∷ negsuc 6 ∷ pos 7 ∷ pos 5 ∷ pos 0 ∷ pos 1 ∷ []
one_operand = refl

least_and_greatest : map value (n_min (var 0) (var 1) ∷ n_min (var 1) (var 0) ∷ n_max (var 0) (var 1) ∷ n_max (var 1) (var 0) ∷ []) ≡ negsuc 6 ∷ negsuc 6 ∷ pos 5 ∷ pos 5 ∷ []
least_and_greatest = refl

-- 5 - 3 - 1 + 4, and 20 div 3 * 3 mod 5, from left to right
left_to_right : map value (n_sum (num 5) (net_terms true (num 3) (net_terms true (num 1) (net_terms false (num 4) no_net_terms))) ∷ n_product (num 20) (net_factors divided (num 3) (net_factors times (num 3) (net_factors modulo (num 5) no_net_factors))) ∷ []) ≡ pos 5 ∷ pos 3 ∷ []
left_to_right = refl

-- 7 and -7 by -2, and by 0
by_negative : map value (n_product (num 7) (net_factors divided (here (n_minus (num 2))) no_net_factors) ∷ n_product (num 7) (net_factors modulo (here (n_minus (num 2))) no_net_factors) ∷ n_product (var 1) (net_factors divided (here (n_minus (num 2))) no_net_factors) ∷ n_product (var 1) (net_factors modulo (here (n_minus (num 2))) no_net_factors) ∷ n_product (num 7) (net_factors divided (num 0) no_net_factors) ∷ n_product (num 7) (net_factors modulo (num 0) no_net_factors) ∷ []) ≡ negsuc 2 ∷ pos 1 ∷ pos 3 ∷ negsuc 0 ∷ pos 0 ∷ pos 0 ∷ []
by_negative = refl

unequal : map value (n_compare (num 2) eq (num 3) ∷ n_compare (num 2) ne (num 3) ∷ n_compare (num 2) lt (num 3) ∷ n_compare (num 2) le (num 3) ∷ n_compare (num 2) gt (num 3) ∷ n_compare (num 2) ge (num 3) ∷ []) ≡ pos 0 ∷ pos 1 ∷ pos 1 ∷ pos 1 ∷ pos 0 ∷ pos 0 ∷ []
unequal = refl

equal : map value (n_compare (num 3) eq (num 3) ∷ n_compare (num 3) ne (num 3) ∷ n_compare (num 3) lt (num 3) ∷ n_compare (num 3) le (num 3) ∷ n_compare (num 3) gt (num 3) ∷ n_compare (num 3) ge (num 3) ∷ []) ≡ pos 1 ∷ pos 0 ∷ pos 0 ∷ pos 1 ∷ pos 0 ∷ pos 1 ∷ []
equal = refl

abbrev truth : Bool → NetExpr
truth b = here (n_truth b)

-- an operator on false and false, false and true, true and false, true and true
abbrev table : (NetExpr → NetExpr → NetForm) → List ℤ
table f = map value (f (truth false) (truth false) ∷ f (truth false) (truth true) ∷ f (truth true) (truth false) ∷ f (truth true) (truth true) ∷ [])

and_table : table (λ a b. n_and (net_exprs a (net_exprs b no_net_exprs))) ≡ pos 0 ∷ pos 0 ∷ pos 0 ∷ pos 1 ∷ []
and_table = refl

or_table : table (λ a b. n_or (net_exprs a (net_exprs b no_net_exprs))) ≡ pos 0 ∷ pos 1 ∷ pos 1 ∷ pos 1 ∷ []
or_table = refl

implies_table : table n_implies ≡ pos 1 ∷ pos 1 ∷ pos 0 ∷ pos 1 ∷ []
implies_table = refl

iff_table : table n_iff ≡ pos 1 ∷ pos 0 ∷ pos 0 ∷ pos 1 ∷ []
iff_table = refl

abbrev cases : Bool → Bool → NetForm
cases a b = n_if (net_branches (truth a) (num 1) (net_branches (truth b) (num 2) no_net_branches)) (num 3)

first_that_holds : map value (cases true true ∷ cases false true ∷ cases false false ∷ []) ≡ pos 1 ∷ pos 2 ∷ pos 3 ∷ []
first_that_holds = refl

-- ---- intervals, where variable 0 is from -2 to 5, variable 1 from 3 to 4, and 7 to 8 is received

abbrev interval_of : NetForm → Range
interval_of f = range_of (record { vars = λ k. elim k [ zero ↦ between (negsuc 1) (pos 5) | suc k ↦ between (pos 3) (pos 4) ]; inputs = λ k. between (negsuc 8) (negsuc 5); algs = λ k. between (pos 1) (pos 2); received = between (pos 7) (pos 8) }) (here f)

by_the_bounds : map interval_of (n_minus (var 0) ∷ n_plus (var 0) ∷ n_sum (var 0) (net_terms false (var 1) no_net_terms) ∷ n_sum (var 0) (net_terms true (var 1) no_net_terms) ∷ n_abs (var 0) ∷ n_abs (here (n_input 0)) ∷ []) ≡ between (negsuc 4) (pos 2) ∷ between (negsuc 1) (pos 5) ∷ between (pos 1) (pos 9) ∷ between (negsuc 5) (pos 2) ∷ between (pos 0) (pos 5) ∷ between (pos 6) (pos 9) ∷ []
by_the_bounds = refl

of_each_bound : map interval_of (n_min (var 0) (var 1) ∷ n_max (var 0) (var 1) ∷ []) ≡ between (negsuc 1) (pos 4) ∷ between (pos 3) (pos 5) ∷ []
of_each_bound = refl

of_names : map interval_of (n_number (pos 6) ∷ n_input 0 ∷ n_alg 0 ∷ n_received ∷ n_loc 0 0 ∷ []) ≡ point (pos 6) ∷ between (negsuc 8) (negsuc 5) ∷ between (pos 1) (pos 2) ∷ between (pos 7) (pos 8) ∷ between (pos 0) (pos 1) ∷ []
of_names = refl

join_of_branches : interval_of (n_if (net_branches sure (var 1) (net_branches sure (num 9) no_net_branches)) (num 6)) ≡ between (pos 3) (pos 9)
join_of_branches = refl

join_with_other : interval_of (n_if (net_branches sure (var 1) no_net_branches) (num 1)) ≡ between (pos 1) (pos 4)
join_with_other = refl

-- -9 to -6 by 3 to 4 and by -4 to -3, and remainders
quotients_by_negative : mul_ranges divided (between (negsuc 8) (pos 6)) (between (negsuc 3) (negsuc 2)) ≡ between (negsuc 1) (pos 3)
quotients_by_negative = refl

products_of_negative : mul_ranges times (between (negsuc 4) (negsuc 2)) (between (negsuc 1) (pos 7)) ≡ between (negsuc 34) (pos 10)
products_of_negative = refl

remainders_by_negative : mul_ranges modulo (between (pos 0) (pos 9)) (between (negsuc 3) (negsuc 1)) ≡ between (pos 0) (pos 3)
remainders_by_negative = refl

remainders_of_negative : mul_ranges modulo (between (negsuc 2) (negsuc 1)) (point (pos 9)) ≡ between (negsuc 2) (pos 0)
remainders_of_negative = refl

remainders_of_positive : mul_ranges modulo (between (pos 7) (pos 8)) (point (pos 9)) ≡ between (pos 0) (pos 8)
remainders_of_positive = refl

-- of 64 bits, and one past each end
narrow : map is_narrow (between (negsuc 9223372036854775807) (pos 9223372036854775807) ∷ between (negsuc 9223372036854775808) (pos 0) ∷ between (pos 0) (pos 9223372036854775808) ∷ []) ≡ true ∷ false ∷ false ∷ []
narrow = refl

-- ---- one expression with each form

abbrev part : ℕ → NetForm → NetExpr
part at f = net_expr f at

-- `(i => not l) <=> (abs(-x) < +y or min(3, ?) != max(x, a)) and l`
abbrev choosing : NetExpr
choosing = part 1 (n_iff (part 2 (n_implies (part 3 (n_input 0)) (part 4 (n_not (part 5 (n_loc 2 0))))))
    (part 6 (n_and (net_exprs (part 7 (n_or (net_exprs (part 8 (n_compare (part 9 (n_abs (part 10 (n_minus (part 11 (n_var 0)))))) lt (part 12 (n_plus (part 13 (n_var 1))))))
    (net_exprs (part 14 (n_compare (part 15 (n_min (part 16 (n_number (pos 3))) (part 17 n_received))) ne (part 18 (n_max (part 19 (n_var 0)) (part 20 (n_alg 3)))))) no_net_exprs))))
    (net_exprs (part 21 (n_loc 3 1)) no_net_exprs)))))

-- `if c: 1 div x + y elif d: 2 else x mod y * 5 div z`
abbrev dividing : NetExpr
dividing = part 1 (n_if (net_branches (part 2 (n_input 0)) (part 3 (n_sum (part 4 (n_product (part 4 (n_number (pos 1))) (net_factors divided (part 5 (n_var 0)) no_net_factors))) (net_terms false (part 6 (n_var 1)) no_net_terms)))
    (net_branches (part 7 (n_input 1)) (part 8 (n_number (pos 2))) no_net_branches))
    (part 9 (n_product (part 10 (n_var 0)) (net_factors modulo (part 11 (n_var 1)) (net_factors times (part 12 (n_number (pos 5))) (net_factors divided (part 13 (n_var 2)) no_net_factors))))))

abbrev place : NetExpr → ℕ
place (net_expr f at) = at

names_of_choosing : names_in choosing ≡ an_input 0 ∷ a_place 2 ∷ a_var 0 ∷ a_var 1 ∷ the_received ∷ a_var 0 ∷ an_alg 3 ∷ a_place 3 ∷ []
names_of_choosing = refl

names_of_dividing : names_in dividing ≡ an_input 0 ∷ a_var 0 ∷ a_var 1 ∷ an_input 1 ∷ a_var 0 ∷ a_var 1 ∷ a_var 2 ∷ []
names_of_dividing = refl

parts_of_choosing : map place (parts choosing) ≡ 3 ∷ 5 ∷ 9 ∷ 10 ∷ 11 ∷ 12 ∷ 13 ∷ 15 ∷ 16 ∷ 17 ∷ 18 ∷ 19 ∷ 20 ∷ 21 ∷ []
parts_of_choosing = refl

parts_of_dividing : map place (parts dividing) ≡ 1 ∷ 2 ∷ 4 ∷ 4 ∷ 5 ∷ 3 ∷ 6 ∷ 7 ∷ 8 ∷ 10 ∷ 9 ∷ 11 ∷ 9 ∷ 12 ∷ 9 ∷ 13 ∷ []
parts_of_dividing = refl

-- what is reached at each operand is a part
prefixes : parts (part 1 (n_sum (part 2 (n_var 0)) (net_terms true (part 3 (n_var 1)) (net_terms false (part 4 (n_var 2)) no_net_terms)))) ≡
    part 2 (n_var 0) ∷ part 1 (n_sum (part 2 (n_var 0)) (net_terms true (part 3 (n_var 1)) no_net_terms)) ∷ part 3 (n_var 1)
    ∷ part 1 (n_sum (part 2 (n_var 0)) (net_terms true (part 3 (n_var 1)) (net_terms false (part 4 (n_var 2)) no_net_terms))) ∷ part 4 (n_var 2) ∷ []
prefixes = refl

-- the divisors of each part of a product
divisors_of_dividing : map place (divisors dividing) ≡ 5 ∷ 11 ∷ 11 ∷ 11 ∷ 13 ∷ []
divisors_of_dividing = refl

-- a name and each number is a form, and parentheses are none
size_of_choosing : measure (algs_alone [] []) (part 0 (n_not (here (n_not (here (n_number (pos 1))))))) ≡ record { size = 3; depth = 2 }
size_of_choosing = refl

sizes_of_forms : map (measure (algs_alone [] (alg (num 1) ∷ alg (num 1) ∷ alg (num 1) ∷ alg (plus (num 1) (num 2)) ∷ []))) (choosing ∷ dividing ∷ []) ≡ record { size = 23; depth = 6 } ∷ record { size = 14; depth = 3 } ∷ []
sizes_of_forms = refl

-- ---- depth and size at their limits

abbrev pub nested : ℕ → NetExpr
nested zero = num 1
nested (suc k) = here (n_plus (nested k))

hundred_deep : is_too_large (algs_alone [] (alg (nested 100) ∷ [])) ≡ false
hundred_deep = refl

deeper : TooLarge (algs_alone [] (alg (nested 101) ∷ [])) 102 101
deeper = (acyclic-by_number (algs_alone [] (alg (nested 101) ∷ [])) refl, refl, refl, refl)

-- both counts stop
much_deeper : TooLarge (algs_alone [] (alg (nested 130) ∷ [])) 131 101
much_deeper = (acyclic-by_number (algs_alone [] (alg (nested 130) ∷ [])) refl, refl, refl, refl)

stops_past_its_limit : map (stopped most_choices) (16383 ∷ 16384 ∷ 16385 ∷ 16386 ∷ []) ≡ 16383 ∷ 16384 ∷ 16385 ∷ 16385 ∷ []
stops_past_its_limit = refl

-- an algebraic variable by location is one deeper than its values, also where it is named nowhere
by_location_is_deeper : depth by_place ≡ 2
by_location_is_deeper = refl

-- its size counts once by itself: one choice of a party and a guard, and six forms
by_location_once : nodes by_place ≡ (1 + 1 + 1) + 6
by_location_once = refl

-- ---- algebraic variables

-- one whose definition names it: its value is unfolded as a name of it is
abbrev needs_itself : Net
needs_itself = algs_alone [] (alg (plus (here (n_alg 0)) (num 1)) ∷ [])

named_value : value_in needs_itself (with_values [] []) (pos 0) (here (n_alg 0)) ≡ pos 1
named_value = refl

same_output : (outputs (system_of_net needs_itself) (with_values [] [])).algs ≡ pos 1 ∷ []
same_output = refl

-- of three places the second
abbrev three_places : Net
three_places = record (algs_alone [] (record (alg sure) { value = by_loc 0 (num 5 ∷ num 6 ∷ num 7 ∷ []) } ∷ alg (plus (here (n_alg 0)) (num 1)) ∷ [])) { autos = [] }

second_place : (outputs (system_of_net three_places) (with_values (1 ∷ []) [])).algs ≡ pos 6 ∷ pos 7 ∷ []
second_place = refl

reads_through : reads three_places (here (n_alg 1)) ≡ a_place 0 ∷ []
reads_through = refl
