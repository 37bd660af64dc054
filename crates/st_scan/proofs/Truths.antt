-- A test has the truth of the expression that it is, and no fault.
use Rattle.std.proofs.Common.{◌≡◌, ℤ, Bool, true, false, refl, ap, ◌∙◌}
use Rattle.std.specs.Prelude.{Result, Ok, Err, not, ◌&&◌, ◌||◌}
use Rattle.st_ast.specs.Values.{Fault, Memory, of_bool, is_true, with_value, differ}
use Rattle.st_check.specs.PlacedTree as op
use Rattle.st_check.specs.PlacedTree.{Expr, Steps, Operator}
use Rattle.st_check.specs.PlacedTests.{Test, Tests, compare, flag, contrary, all_of, any_of, no_tests, tests, under_not, expr_of, exprs_of}
use Rattle.st_scan.specs.PlacedTruths.{truth_at, all_at, any_at}
use Rattle.st_scan.specs.PlacedValues.{value_at, steps_at, applied, applied_to, decided}
use Rattle.st_check.specs.declared.placed.Single.TheVariants as one

of-truth : (b : Bool) → is_true (of_bool b) ≡ b
of-truth true = refl
of-truth false = refl

ok-same : (r : Result Bool Fault) (a b : Bool) → r ≡ Ok a → r ≡ Ok b → a ≡ b
ok-same r a b d e = cc

negates : (r : Result ℤ Fault) (b : Bool) → decided r ≡ Ok b → decided (with_value r (λ e. Err e) (λ x. applied_to one.Not x)) ≡ Ok (not b)
negates (Ok v) b h = ap Ok (of-truth (not (is_true v)) ∙ ap not (ok-same (Ok (is_true v)) (is_true v) b refl h))
negates (Err f) b h = absurd cc

turned : (n : Bool) (e : Expr) (m : Memory) (b : Bool) → decided (value_at e m) ≡ Ok b → decided (value_at (under_not n e) m) ≡ Ok (differ n b)
turned true e m b h = negates (value_at e m) b h
turned false e m b h = h

and-truth : (b : Bool) (x c : Bool) → x ≡ c → (is_true (of_bool b) && x) ≡ (b && c)
and-truth true x c e = e
and-truth false x c e = refl

or-truth : (b : Bool) (x c : Bool) → x ≡ c → (is_true (of_bool b) || x) ≡ (b || c)
or-truth true x c e = refl
or-truth false x c e = e

-- one more operand of AND, and of OR
and-step : (r : Result ℤ Fault) (b c : Bool) (ss : Steps) (m : Memory) → decided r ≡ Ok c
    → decided (with_value r (λ e. Err e) (λ x. with_value (applied op.all (of_bool b) x) (λ e. Err e) (λ y. steps_at y ss m))) ≡ decided (steps_at (of_bool (b && c)) ss m)
and-step (Ok v) b c ss m h = ap (λ d. decided (steps_at (of_bool d) ss m)) (and-truth b (is_true v) c (ok-same (Ok (is_true v)) (is_true v) c refl h))
and-step (Err f) b c ss m h = absurd cc

or-step : (r : Result ℤ Fault) (b c : Bool) (ss : Steps) (m : Memory) → decided r ≡ Ok c
    → decided (with_value r (λ e. Err e) (λ x. with_value (applied op.any (of_bool b) x) (λ e. Err e) (λ y. steps_at y ss m))) ≡ decided (steps_at (of_bool (b || c)) ss m)
or-step (Ok v) b c ss m h = ap (λ d. decided (steps_at (of_bool d) ss m)) (or-truth b (is_true v) c (ok-same (Ok (is_true v)) (is_true v) c refl h))
or-step (Err f) b c ss m h = absurd cc

and-all : (b c d : Bool) → ((b && c) && d) ≡ (b && (c && d))
and-all true c d = refl
and-all false c d = refl

or-all : (b c d : Bool) → ((b || c) || d) ≡ (b || (c || d))
or-all true c d = refl
or-all false c d = refl

and-end : (b : Bool) → is_true (of_bool b) ≡ (b && true)
and-end true = refl
and-end false = refl

or-end : (b : Bool) → is_true (of_bool b) ≡ (b || false)
or-end true = refl
or-end false = refl

mutual
  pub decides : (t : Test) (m : Memory) → decided (value_at (expr_of t) m) ≡ Ok (truth_at t m)
  decides (compare r holds n k z) m = turned n _ m _ (ap Ok (of-truth _))
  decides (flag n k) m = turned n _ m _ refl
  decides (contrary t) m = negates (value_at (expr_of t) m) (truth_at t m) (decides t m)
  decides (all_of ts) m = all-from true ts m
  decides (any_of ts) m = any-from false ts m

  -- from what the operands so far come to
  all-from : (b : Bool) (ts : Tests) (m : Memory) → decided (steps_at (of_bool b) (op.same_steps op.all (exprs_of ts)) m) ≡ Ok (b && all_at ts m)
  all-from b no_tests m = ap Ok (and-end b)
  all-from b (tests t ts) m =
      and-step (value_at (expr_of t) m) b (truth_at t m) (op.same_steps op.all (exprs_of ts)) m (decides t m)
      ∙ all-from (b && truth_at t m) ts m
      ∙ ap Ok (and-all b (truth_at t m) (all_at ts m))

  any-from : (b : Bool) (ts : Tests) (m : Memory) → decided (steps_at (of_bool b) (op.same_steps op.any (exprs_of ts)) m) ≡ Ok (b || any_at ts m)
  any-from b no_tests m = ap Ok (or-end b)
  any-from b (tests t ts) m =
      or-step (value_at (expr_of t) m) b (truth_at t m) (op.same_steps op.any (exprs_of ts)) m (decides t m)
      ∙ any-from (b || truth_at t m) ts m
      ∙ ap Ok (or-all b (truth_at t m) (any_at ts m))
