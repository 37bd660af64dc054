-- Helper of the code: the values of expressions whose names are resolved, by the words of `st_ast`, in programs of 64 bits. A
-- place beyond the memory has the value 0.
use Rattle.std.specs.Prelude.{ℤ, pos, neg_ℤ, nat_abs, int_lt, int_le, Bool, true, false, not, ◌&&◌, ◌||◌, Result, Ok, Err, slice_index_or, if◌then◌else◌}
use Rattle.st_ast.specs.Values.{Fault, Memory, of_bool, is_true, checked, with_value, both, same_number, added, multiplied, smaller, larger, differ}
use Rattle.st_ast.specs.declared.tree.StMul.TheVariants as mul
use Rattle.st_check.specs.PlacedTree.{Operator, Expr, Steps, number, placed, single, pair, chain, selected, no_steps, steps}
use Rattle.st_check.specs.PlacedTree as op
use Rattle.st_check.specs.declared.placed.Relation.{Relation}
use Rattle.st_check.specs.declared.placed.Relation.TheVariants as rel
use Rattle.st_check.specs.declared.placed.Join.{Join}
use Rattle.st_check.specs.declared.placed.Join.TheVariants as join
use Rattle.st_check.specs.declared.placed.Single.{Single}
use Rattle.st_check.specs.declared.placed.Single.TheVariants as one

abbrev pub applied_to : Single → ℤ → Result ℤ Fault
applied_to one.Minus x = checked 64 (neg_ℤ x)
applied_to one.Not x = Ok (of_bool (not (is_true x)))
applied_to one.Absolute x = checked 64 (pos (nat_abs x))

abbrev pub stands : Relation → ℤ → ℤ → Bool
stands rel.Less x y = int_lt x y
stands rel.AtMost x y = int_le x y
stands rel.Equal x y = same_number x y

-- whether a relation holds, or whether it doesn't
abbrev pub related : Relation → Bool → ℤ → ℤ → Bool
related r true x y = stands r x y
related r false x y = not (stands r x y)

abbrev pub joined_with : Join → Bool → Bool → Bool
joined_with join.And a b = a && b
joined_with join.Xor a b = differ a b
joined_with join.Or a b = a || b

abbrev pub applied : Operator → ℤ → ℤ → Result ℤ Fault
applied op.add x y = checked 64 (added false x y)
applied op.subtract x y = checked 64 (added true x y)
applied op.multiply x y = multiplied 64 mul.Times x y
applied op.divide x y = multiplied 64 mul.Div x y
applied op.remainder x y = multiplied 64 mul.Mod x y
applied (op.is r holds) x y = Ok (of_bool (related r holds x y))
applied op.all x y = Ok (of_bool (joined_with join.And (is_true x) (is_true y)))
applied op.odd x y = Ok (of_bool (joined_with join.Xor (is_true x) (is_true y)))
applied op.any x y = Ok (of_bool (joined_with join.Or (is_true x) (is_true y)))
applied op.smaller x y = Ok (smaller x y)
applied op.larger x y = Ok (larger x y)

abbrev mutual
  pub value_at : Expr → Memory → Result ℤ Fault
  value_at (number z) m = Ok z
  value_at (placed k) m = Ok (slice_index_or m k (pos 0))
  value_at (single f e) m = with_value (value_at e m) (λ e. Err e) (λ x. applied_to f x)
  value_at (pair a f b) m = both (λ x y. applied f x y) (value_at a m) (value_at b m)
  value_at (chain e rest) m = with_value (value_at e m) (λ e. Err e) (λ x. steps_at x rest m)
  value_at (selected c a b) m = with_value (value_at c m) (λ e. Err e)
      (λ z. both (λ x y. Ok (if is_true z then y else x)) (value_at a m) (value_at b m))

  -- what the chain comes to so far, and its further steps
  pub steps_at : ℤ → Steps → Memory → Result ℤ Fault
  steps_at z no_steps m = Ok z
  steps_at z (steps f e ss) m =
      with_value (value_at e m) (λ e. Err e) (λ x. with_value (applied f z x) (λ e. Err e) (λ y. steps_at y ss m))

-- whether a value is TRUE
abbrev pub decided : Result ℤ Fault → Result Bool Fault
decided (Ok v) = Ok (is_true v)
decided (Err f) = Err f

-- goes on with a truth
abbrev pub with_truth : {X : Type 0} → Result Bool Fault → (Fault → X) → (Bool → X) → X
with_truth (Ok b) fails go = go b
with_truth (Err f) fails go = fails f
