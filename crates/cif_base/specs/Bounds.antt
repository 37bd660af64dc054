-- Intervals of whole numbers, each as its bounds, and the interval of the results of an operator, told from those of its
-- operands (R. E. Moore, Interval Analysis, 1966).
use Rattle.std.specs.Prelude.{ℤ, pos, neg_ℤ, ◌+ℤ◌, ◌-ℤ◌, ◌*ℤ◌, nat_abs, int_lt, int_le, int_div, Bool, ◌&&◌, Option, Some, None, if◌then◌else◌}
use Rattle.std.specs.Int.{int_min, int_max}

-- the numbers from lo to hi, both included
pub record Bounds : Type 0 where
  pub lo : ℤ
  pub hi : ℤ

abbrev pub between : ℤ → ℤ → Bounds
between lo hi = record { lo = lo; hi = hi }

abbrev pub contains : Bounds → ℤ → Bool
contains a z = int_le a.lo z && int_le z a.hi

abbrev pub neg_bounds : Bounds → Bounds
neg_bounds a = between (neg_ℤ a.hi) (neg_ℤ a.lo)

abbrev pub add_bounds : Bounds → Bounds → Bounds
add_bounds a b = between (a.lo +ℤ b.lo) (a.hi +ℤ b.hi)

abbrev pub sub_bounds : Bounds → Bounds → Bounds
sub_bounds a b = between (a.lo -ℤ b.hi) (a.hi -ℤ b.lo)

-- the least and the greatest of four
abbrev pub of_four : ℤ → ℤ → ℤ → ℤ → Bounds
of_four a b c d = between (int_min (int_min a b) (int_min c d)) (int_max (int_max a b) (int_max c d))

-- the least and the greatest result at the bounds
abbrev pub corners : (ℤ → ℤ → ℤ) → Bounds → Bounds → Bounds
corners f a b = of_four (f a.lo b.lo) (f a.lo b.hi) (f a.hi b.lo) (f a.hi b.hi)

abbrev pub mul_bounds : Bounds → Bounds → Bounds
mul_bounds a b = corners (λ x y. x *ℤ y) a b

-- by a divisor without 0, towards zero
abbrev pub div_bounds : Bounds → Bounds → Bounds
div_bounds a b = corners int_div a b

-- the greatest absolute value
abbrev pub greatest_abs : Bounds → ℤ
greatest_abs a = int_max (pos (nat_abs a.lo)) (pos (nat_abs a.hi))

-- remainders have the sign of the dividend, and m is their greatest absolute value
abbrev pub least_rem : ℤ → ℤ → ℤ
least_rem m lo = if int_lt lo (pos 0) then int_max lo (neg_ℤ m) else pos 0

abbrev pub greatest_rem : ℤ → ℤ → ℤ
greatest_rem m hi = if int_lt (pos 0) hi then int_min hi m else pos 0

-- by a divisor without 0
abbrev pub rem_bounds : Bounds → Bounds → Bounds
rem_bounds a b = between (least_rem (greatest_abs b -ℤ pos 1) a.lo) (greatest_rem (greatest_abs b -ℤ pos 1) a.hi)

-- 0 where it is inside
abbrev pub least_abs : Bounds → ℤ
least_abs a = if contains a (pos 0) then pos 0 else int_min (pos (nat_abs a.lo)) (pos (nat_abs a.hi))

abbrev pub abs_bounds : Bounds → Bounds
abs_bounds a = between (least_abs a) (greatest_abs a)

abbrev pub min_bounds : Bounds → Bounds → Bounds
min_bounds a b = between (int_min a.lo b.lo) (int_min a.hi b.hi)

abbrev pub max_bounds : Bounds → Bounds → Bounds
max_bounds a b = between (int_max a.lo b.lo) (int_max a.hi b.hi)

-- the least interval round both
abbrev pub join_bounds : Bounds → Bounds → Bounds
join_bounds a b = between (int_min a.lo b.lo) (int_max a.hi b.hi)

-- ---- 64 bits

abbrev pub in_64_bits : ℤ → Bool
in_64_bits z = int_le (neg_ℤ (pos 9223372036854775808)) z && int_le z (pos 9223372036854775807)

-- both bounds are in 64 bits
abbrev pub is_narrow : Bounds → Bool
is_narrow a = in_64_bits a.lo && in_64_bits a.hi

abbrev pub within_64 : Bounds → Option Bounds
within_64 a = if is_narrow a then Some a else None

-- by a divisor in b
abbrev pub divided_by : Bounds → Option Bounds → Option Bounds
divided_by b r = if contains b (pos 0) then None else r
