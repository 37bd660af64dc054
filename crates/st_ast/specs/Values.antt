-- The values of expressions (IEC 61131-3, "Expressions"). A BOOL is 0 or 1. Every operand is evaluated, from left to
-- right, and the first fault ends the evaluation.
use Rattle.std.specs.Prelude.{ℕ, zero, suc, ◌^◌, ◌-◌, ℤ, pos, negsuc, ◌+ℤ◌, ◌-ℤ◌, ◌*ℤ◌, neg_ℤ, nat_abs, int_div, int_rem, int_lt, int_le, nat_le, nat_lt, nat_eq, Bool, true, false, not, ◌&&◌, ◌||◌, List, Result, Ok, Err, slice_index_or, if◌then◌else◌}
use Rattle.st_ast.specs.Names.{place_of}
use Rattle.st_ast.specs.Tree.{Expr, Exprs, Factors, Terms, truth, number, named, paren, negation, complement, product, sum, order, equal, all_of, odd_of, any_of, absolute, least, greatest, selection, no_exprs, exprs, no_factors, factors, no_terms, terms}
use Rattle.st_ast.specs.declared.tree.StVar.{StVar}
use Rattle.st_ast.specs.declared.tree.StMul.{StMul}
use Rattle.st_ast.specs.declared.tree.StMul.TheVariants as mul
use Rattle.st_ast.specs.declared.tree.StOrder.{StOrder}
use Rattle.st_ast.specs.declared.tree.StOrder.TheVariants as cmp

-- What ends a scan early: a number or a result outside the width of the program, a divisor 0, or a value outside the subrange of the variable with
-- that number.
pub data Fault : Type 0 where
  overflow zero_divide : Fault
  subrange_left : (variable : ℕ) (value : ℤ) → Fault

-- the numbers of the variables, in the order of declaration
abbrev pub Memory : Type 0
Memory = List ℤ

abbrev pub of_bool : Bool → ℤ
of_bool false = pos 0
of_bool true = pos 1

abbrev pub is_true : ℤ → Bool
is_true (pos zero) = false
is_true (pos (suc n)) = true
is_true (negsuc n) = true

-- how many bits the numbers of a program with these variables have: all its types are of 64 bits
abbrev pub width_of : List StVar → ℕ
width_of vars = 64

-- whether a number has so many bits, one of them for the sign
abbrev pub fits : ℕ → ℤ → Bool
fits width (pos n) = nat_lt n (2 ^ (width - 1))
fits width (negsuc n) = nat_lt n (2 ^ (width - 1))

abbrev pub checked : ℕ → ℤ → Result ℤ Fault
checked width z = if fits width z then Ok z else Err overflow

-- The value of a number. As it stands in a program it has 64 bits, so it is a fault only where the program has fewer.
abbrev pub number_value : ℕ → ℤ → Result ℤ Fault
number_value width z = if nat_le 64 width then Ok z else checked width z

-- whether a number is one from the first limit to the second
abbrev pub is_between : ℤ → ℤ → ℤ → Bool
is_between lo hi z = int_le lo z && int_le z hi

abbrev pub same_number : ℤ → ℤ → Bool
same_number (pos a) (pos b) = nat_eq a b
same_number (pos a) (negsuc b) = false
same_number (negsuc a) (pos b) = false
same_number (negsuc a) (negsuc b) = nat_eq a b

-- goes on with a value
abbrev pub with_value : {X : Type 0} → Result ℤ Fault → (Fault → X) → (ℤ → X) → X
with_value (Ok v) fails go = go v
with_value (Err f) fails go = fails f

-- both operands, from left to right
abbrev pub both : (ℤ → ℤ → Result ℤ Fault) → Result ℤ Fault → Result ℤ Fault → Result ℤ Fault
both f a b = with_value a (λ e. Err e) (λ x. with_value b (λ e. Err e) (λ y. f x y))

abbrev pub holds : StOrder → ℤ → ℤ → Bool
holds cmp.Lt a b = int_lt a b
holds cmp.Gt a b = int_lt b a
holds cmp.Le a b = int_le a b
holds cmp.Ge a b = int_le b a

abbrev pub added : Bool → ℤ → ℤ → ℤ
added false a b = a +ℤ b
added true a b = a -ℤ b

-- whether two values are as `=`, or `<>`, says
abbrev pub are_equal : Bool → ℤ → ℤ → Bool
are_equal true a b = same_number a b
are_equal false a b = not (same_number a b)

-- `/` rounds towards zero, and by 0 it is a fault
abbrev pub divided : ℕ → ℤ → ℤ → Result ℤ Fault
divided width a b = if same_number b (pos 0) then Err zero_divide else checked width (int_div a b)

-- MOD has the sign of the dividend, and by 0 it is 0
abbrev pub remainder : ℤ → ℤ → ℤ
remainder a b = if same_number b (pos 0) then pos 0 else int_rem a b

abbrev pub multiplied : ℕ → StMul → ℤ → ℤ → Result ℤ Fault
multiplied width mul.Times a b = checked width (a *ℤ b)
multiplied width mul.Div a b = divided width a b
multiplied width mul.Mod a b = Ok (remainder a b)

abbrev pub smaller : ℤ → ℤ → ℤ
smaller a b = if int_le a b then a else b

abbrev pub larger : ℤ → ℤ → ℤ
larger a b = if int_le a b then b else a

-- whether one of two holds and the other does not
abbrev pub differ : Bool → Bool → Bool
differ false b = b
differ true b = not b

abbrev mutual
  pub value_of : List StVar → Expr → Memory → Result ℤ Fault
  value_of vars (truth b) m = Ok (of_bool b)
  value_of vars (number z) m = number_value (width_of vars) z
  value_of vars (named x) m = Ok (slice_index_or m (place_of vars x) (pos 0))
  value_of vars (paren e) m = value_of vars e m
  value_of vars (negation e) m = with_value (value_of vars e m) (λ f. Err f) (λ x. checked (width_of vars) (neg_ℤ x))
  value_of vars (complement e) m = with_value (value_of vars e m) (λ f. Err f) (λ x. Ok (of_bool (not (is_true x))))
  value_of vars (product e rest) m = with_value (value_of vars e m) (λ f. Err f) (λ x. product_on vars x rest m)
  value_of vars (sum e rest) m = with_value (value_of vars e m) (λ f. Err f) (λ x. sum_on vars x rest m)
  value_of vars (order a op b) m = both (λ x y. Ok (of_bool (holds op x y))) (value_of vars a m) (value_of vars b m)
  value_of vars (equal a same b) m = both (λ x y. Ok (of_bool (are_equal same x y))) (value_of vars a m) (value_of vars b m)
  value_of vars (all_of es) m = joined vars (λ a b. a && b) true es m
  value_of vars (odd_of es) m = joined vars differ false es m
  value_of vars (any_of es) m = joined vars (λ a b. a || b) false es m
  value_of vars (absolute e) m = with_value (value_of vars e m) (λ f. Err f) (λ x. checked (width_of vars) (pos (nat_abs x)))
  value_of vars (least a b) m = both (λ x y. Ok (smaller x y)) (value_of vars a m) (value_of vars b m)
  value_of vars (greatest a b) m = both (λ x y. Ok (larger x y)) (value_of vars a m) (value_of vars b m)
  value_of vars (selection g a b) m = with_value (value_of vars g m) (λ f. Err f)
      (λ c. both (λ x y. Ok (if is_true c then y else x)) (value_of vars a m) (value_of vars b m))

  -- the product so far and its further operands; each partial product has its value, or its fault, before the next operand
  pub product_on : List StVar → ℤ → Factors → Memory → Result ℤ Fault
  product_on vars z no_factors m = Ok z
  product_on vars z (factors op e fs) m =
      with_value (value_of vars e m) (λ f. Err f) (λ x. with_value (multiplied (width_of vars) op z x) (λ f. Err f) (λ y. product_on vars y fs m))

  -- the sum so far and what is added to it; each partial sum has its value, or its fault, before the next operand
  pub sum_on : List StVar → ℤ → Terms → Memory → Result ℤ Fault
  sum_on vars z no_terms m = Ok z
  sum_on vars z (terms minus e ts) m =
      with_value (value_of vars e m) (λ f. Err f) (λ x. with_value (checked (width_of vars) (added minus z x)) (λ f. Err f) (λ y. sum_on vars y ts m))

  -- what the operands so far come to, and the others
  pub joined : List StVar → (Bool → Bool → Bool) → Bool → Exprs → Memory → Result ℤ Fault
  joined vars op so_far no_exprs m = Ok (of_bool so_far)
  joined vars op so_far (exprs e es) m = with_value (value_of vars e m) (λ f. Err f) (λ x. joined vars op (op so_far (is_true x)) es m)
