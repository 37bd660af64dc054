-- Products, quotients, remainders and absolute values of numbers in ranges.
use Rattle.std.proofs.Common.{◌≡◌, ℕ, zero, suc, ◌*◌, ◌/◌, ◌%◌, ◌<◌, ◌≤◌, false, ℤ, pos, negsuc, neg_ℤ, ◌-ℤ◌, ◌*ℤ◌, nat_abs, ◌≤ℤ◌, int_div, int_rem, refl, sym, subst, arith, if◌then◌else◌}
use Rattle.std.specs.Int.{int_min}
use Rattle.std.specs.Ordering.{int_eq}
use Rattle.std.proofs.lemmas.Int.{ints, clamps, rem_below}
use Rattle.std.proofs.Math.IntN.{*ℤ_comm}
use Rattle.std.proofs.Math.Nat.{mul-le-mul_right, mul-le-mul_left, div-mul-le_self, mod-le}
use Rattle.std.proofs.lemmas.Nat.{le-div}
use Rattle.cif_base.specs.Bounds.{corners, greatest_abs, least_rem, greatest_rem}
use Rattle.cif_system.specs.System.{Range, in_range}
use Rattle.cif_net_expr.specs.Tree.{MulOp, times, divided, modulo}
use Rattle.cif_net_model.specs.Value.{multiplied}
use Rattle.cif_net_model.specs.Interval.{between, as_bounds, as_range, mul_ranges, abs_range}
use Rattle.cif_net_model.proofs.Orders.{Lies, Between, rising, falling, four}

-- the least and the greatest result at the bounds
abbrev pub corner_range : (ℤ → ℤ → ℤ) → Range → Range → Range
corner_range f a b = as_range (corners f (as_bounds a) (as_bounds b))

-- the range of the remainders of a, of which m is the greatest absolute value
abbrev pub rem_range : ℤ → Range → Range
rem_range m a = between (least_rem m a.lo) (greatest_rem m a.hi)

-- the greatest absolute value in a range
abbrev pub greatest : Range → ℤ
greatest a = greatest_abs (as_bounds a)

-- ---- products

nonneg : (z : ℤ) → pos 0 ≤ℤ z → (c : ℕ) × (z ≡ pos c)
nonneg (pos c) h = (c, refl)
nonneg (negsuc c) h = absurd (omega (arith, ints))

times-rises : (x y : ℤ) (c : ℕ) → x ≤ℤ y → (x *ℤ pos c) ≤ℤ (y *ℤ pos c)
times-rises (pos a) (pos b) c h = let k : a * c ≤ b * c = mul-le-mul_right c (omega (arith, ints)) in omega (arith, ints)
times-rises (pos a) (negsuc b) c h = absurd (omega (arith, ints))
times-rises (negsuc a) (pos b) c h = omega (arith, ints)
times-rises (negsuc a) (negsuc b) c h = let k : suc b * c ≤ suc a * c = mul-le-mul_right c (omega (arith, ints)) in omega (arith, ints)

times-falls : (x y : ℤ) (c : ℕ) → x ≤ℤ y → (y *ℤ negsuc c) ≤ℤ (x *ℤ negsuc c)
times-falls (pos a) (pos b) c h = let k : a * suc c ≤ b * suc c = mul-le-mul_right (suc c) (omega (arith, ints)) in omega (arith, ints)
times-falls (pos a) (negsuc b) c h = absurd (omega (arith, ints))
times-falls (negsuc a) (pos b) c h = omega (arith, ints)
times-falls (negsuc a) (negsuc b) c h = let k : suc b * suc c ≤ suc a * suc c = mul-le-mul_right (suc c) (omega (arith, ints)) in omega (arith, ints)

times-between : (p q x z : ℤ) → p ≤ℤ x → x ≤ℤ q → Between (p *ℤ z) (q *ℤ z) (x *ℤ z)
times-between p q x (pos c) h k = rising _ _ _ (times-rises p x c h) (times-rises x q c k)
times-between p q x (negsuc c) h k = falling _ _ _ (times-falls x q c k) (times-falls p x c h)

times-between-right : (c p q y : ℤ) → p ≤ℤ y → y ≤ℤ q → Between (c *ℤ p) (c *ℤ q) (c *ℤ y)
times-between-right c p q y h k =
    subst (λ z. Between z (c *ℤ q) (c *ℤ y)) (*ℤ_comm p c)
    (subst (λ z. Between (p *ℤ c) z (c *ℤ y)) (*ℤ_comm q c)
    (subst (λ z. Between (p *ℤ c) (q *ℤ c) z) (*ℤ_comm y c) (times-between p q y c h k)))

pub times-holds : (a b : Range) (x y : ℤ) → Lies a x → Lies b y → Lies (corner_range (λ v w. v *ℤ w) a b) (x *ℤ y)
times-holds a b x y h k =
    four (a.lo *ℤ b.lo) (a.lo *ℤ b.hi) (a.hi *ℤ b.lo) (a.hi *ℤ b.hi) (a.lo *ℤ y) (a.hi *ℤ y) (x *ℤ y) (times-between-right a.lo b.lo b.hi y k.0 k.1) (times-between-right a.hi b.lo b.hi y k.0 k.1) (times-between a.lo a.hi x y h.0 h.1)

-- ---- quotients

div-rises : (m n d : ℕ) → 0 < d → m ≤ n → m / d ≤ n / d
div-rises m n d p h = le-div (m / d) n d p (omega (arith, div-mul-le_self m d))

div-falls : (m d e : ℕ) → 0 < d → d ≤ e → m / e ≤ m / d
div-falls m d e p h = let k : m / e * d ≤ m / e * e = mul-le-mul_left (m / e) h in le-div (m / e) m d p (omega (arith, div-mul-le_self m e))

quot-rises : (x y : ℤ) (d : ℕ) → 0 < d → x ≤ℤ y → int_div x (pos d) ≤ℤ int_div y (pos d)
quot-rises (pos a) (pos b) d p h = let k : a / d ≤ b / d = div-rises a b d p (omega (arith, ints)) in omega (arith, ints)
quot-rises (pos a) (negsuc b) d p h = absurd (omega (arith, ints))
quot-rises (negsuc a) (pos b) d p h = omega (arith, ints)
quot-rises (negsuc a) (negsuc b) d p h = let k : suc b / d ≤ suc a / d = div-rises (suc b) (suc a) d p (omega (arith, ints)) in omega (arith, ints)

quot-falls : (x y : ℤ) (c : ℕ) → x ≤ℤ y → int_div y (negsuc c) ≤ℤ int_div x (negsuc c)
quot-falls (pos a) (pos b) c h = let k : a / suc c ≤ b / suc c = div-rises a b (suc c) (omega arith) (omega (arith, ints)) in omega (arith, ints)
quot-falls (pos a) (negsuc b) c h = absurd (omega (arith, ints))
quot-falls (negsuc a) (pos b) c h = omega (arith, ints)
quot-falls (negsuc a) (negsuc b) c h = let k : suc b / suc c ≤ suc a / suc c = div-rises (suc b) (suc a) (suc c) (omega arith) (omega (arith, ints)) in omega (arith, ints)

quot-between : (p q x z : ℤ) → 0 < nat_abs z → p ≤ℤ x → x ≤ℤ q → Between (int_div p z) (int_div q z) (int_div x z)
quot-between p q x (pos d) n h k = rising _ _ _ (quot-rises p x d n h) (quot-rises x q d n k)
quot-between p q x (negsuc c) n h k = falling _ _ _ (quot-falls x q c k) (quot-falls p x c h)

-- by a greater positive divisor, and by a greater negative one
quot-by-pos : (x : ℤ) (p y q : ℕ) → 0 < p → p ≤ y → y ≤ q → Between (int_div x (pos p)) (int_div x (pos q)) (int_div x (pos y))
quot-by-pos (pos a) p y q n h k =
    let l : a / y ≤ a / p = div-falls a p y n h in
    let m : a / q ≤ a / y = div-falls a y q (omega arith) k in
    falling (pos (a / p)) (pos (a / q)) (pos (a / y)) (omega (arith, ints)) (omega (arith, ints))
quot-by-pos (negsuc a) p y q n h k =
    let l : suc a / y ≤ suc a / p = div-falls (suc a) p y n h in
    let m : suc a / q ≤ suc a / y = div-falls (suc a) y q (omega arith) k in
    rising (neg_ℤ (pos (suc a / p))) (neg_ℤ (pos (suc a / q))) (neg_ℤ (pos (suc a / y))) (omega (arith, ints)) (omega (arith, ints))

quot-by-neg : (x : ℤ) (p y q : ℕ) → y ≤ p → q ≤ y → Between (int_div x (negsuc p)) (int_div x (negsuc q)) (int_div x (negsuc y))
quot-by-neg (pos a) p y q h k =
    let l : a / suc p ≤ a / suc y = div-falls a (suc y) (suc p) (omega arith) (omega arith) in
    let m : a / suc y ≤ a / suc q = div-falls a (suc q) (suc y) (omega arith) (omega arith) in
    falling (neg_ℤ (pos (a / suc p))) (neg_ℤ (pos (a / suc q))) (neg_ℤ (pos (a / suc y))) (omega (arith, ints)) (omega (arith, ints))
quot-by-neg (negsuc a) p y q h k =
    let l : suc a / suc p ≤ suc a / suc y = div-falls (suc a) (suc y) (suc p) (omega arith) (omega arith) in
    let m : suc a / suc y ≤ suc a / suc q = div-falls (suc a) (suc q) (suc y) (omega arith) (omega arith) in
    rising (pos (suc a / suc p)) (pos (suc a / suc q)) (pos (suc a / suc y)) (omega (arith, ints)) (omega (arith, ints))

-- where 0 is not between the bounds
quot-between-right : (x p q y : ℤ) → in_range (between p q) (pos 0) ≡ false → p ≤ℤ y → y ≤ℤ q → Between (int_div x p) (int_div x q) (int_div x y)
quot-between-right x (pos p) (pos q) (pos y) n h k = quot-by-pos x p y q (grind (arith, ints)) (omega (arith, ints)) (omega (arith, ints))
quot-between-right x (negsuc p) (negsuc q) (negsuc y) n h k = quot-by-neg x p y q (omega (arith, ints)) (omega (arith, ints))
quot-between-right x (negsuc p) (pos q) y n h k = absurd (grind (arith, ints))
quot-between-right x (pos p) (negsuc q) (pos y) n h k = absurd (omega (arith, ints))
quot-between-right x (pos p) (negsuc q) (negsuc y) n h k = absurd (omega (arith, ints))
quot-between-right x (pos p) (pos q) (negsuc y) n h k = absurd (omega (arith, ints))
quot-between-right x (negsuc p) (negsuc q) (pos y) n h k = absurd (omega (arith, ints))

-- a number in a range without 0 is not 0
pub not-zero : (b : Range) (y : ℤ) → in_range b (pos 0) ≡ false → Lies b y → 0 < nat_abs y
not-zero b (pos zero) n h = absurd (grind (arith, ints))
not-zero b (pos (suc c)) n h = omega arith
not-zero b (negsuc c) n h = omega arith

pub quot-holds : (a b : Range) (x y : ℤ) → in_range b (pos 0) ≡ false → Lies a x → Lies b y → Lies (corner_range int_div a b) (int_div x y)
quot-holds a b x y n h k =
    four (int_div a.lo b.lo) (int_div a.lo b.hi) (int_div a.hi b.lo) (int_div a.hi b.hi) (int_div a.lo y) (int_div a.hi y) (int_div x y) (quot-between-right a.lo b.lo b.hi y n k.0 k.1) (quot-between-right a.hi b.lo b.hi y n k.0 k.1)
    (quot-between a.lo a.hi x y (not-zero b y n k) h.0 h.1)

-- ---- remainders

rem-up : (m : ℤ) (a : Range) (x r : ℤ) → Lies a x → pos 0 ≤ℤ r → r ≤ℤ x → r ≤ℤ m → Lies (rem_range m a) r
rem-up m a x r h p k l = grind (arith, ints, clamps)

rem-down : (m : ℤ) (a : Range) (x r : ℤ) → Lies a x → r ≤ℤ pos 0 → x ≤ℤ r → neg_ℤ m ≤ℤ r → Lies (rem_range m a) r
rem-down m a x r h p k l = grind (arith, ints, clamps)

-- the absolute value is at most the greatest
pub abs-most : (b : Range) (y : ℤ) → Lies b y → pos (nat_abs y) ≤ℤ greatest b
abs-most b (pos y) h = grind (arith, ints, clamps)
abs-most b (negsuc y) h = grind (arith, ints, clamps)

pub abs-holds : (b : Range) (y : ℤ) → Lies b y → Lies (abs_range b) (pos (nat_abs y))
abs-holds b y h = (abs-least b y h, abs-most b y h)
  where
    lowest : (lo hi y : ℤ) → lo ≤ℤ y → y ≤ℤ hi → (if in_range (between lo hi) (pos 0) then pos 0 else int_min (pos (nat_abs lo)) (pos (nat_abs hi))) ≤ℤ pos (nat_abs y)
    lowest (pos p) (pos q) (pos y) h k = grind (arith, ints, clamps)
    lowest (negsuc p) (pos q) y h k = grind (arith, ints)
    lowest (negsuc p) (negsuc q) (negsuc y) h k = omega (arith, ints, clamps)
    lowest (pos p) (negsuc q) (pos y) h k = absurd (omega (arith, ints))
    lowest (pos p) (negsuc q) (negsuc y) h k = absurd (omega (arith, ints))
    lowest (pos p) (pos q) (negsuc y) h k = absurd (omega (arith, ints))
    lowest (negsuc p) (negsuc q) (pos y) h k = absurd (omega (arith, ints))

    abs-least : (b : Range) (y : ℤ) → Lies b y → (abs_range b).lo ≤ℤ pos (nat_abs y)
    abs-least b y h = lowest b.lo b.hi y h.0 h.1

pub rem-holds : (a b : Range) (x y : ℤ) → in_range b (pos 0) ≡ false → Lies a x → Lies b y → Lies (rem_range (greatest b -ℤ pos 1) a) (int_rem x y)
rem-holds a b (pos c) y n h k =
    let l : nat_abs (int_rem (pos c) y) < nat_abs y = rem_below (pos c) y (not-zero b y n k) in
    let m : pos (nat_abs y) ≤ℤ greatest b = abs-most b y k in
    let o : c % nat_abs y ≤ c = mod-le c (nat_abs y) in
    rem-up (greatest b -ℤ pos 1) a (pos c) (pos (c % nat_abs y)) h (omega (arith, ints)) (omega (arith, ints)) (omega (arith, ints))
rem-holds a b (negsuc c) y n h k =
    let l : suc c % nat_abs y < nat_abs y = below (suc c % nat_abs y) (nat_abs y) (rem_below (negsuc c) y (not-zero b y n k)) in
    let m : pos (nat_abs y) ≤ℤ greatest b = abs-most b y k in
    let o : suc c % nat_abs y ≤ suc c = mod-le (suc c) (nat_abs y) in
    rem-down (greatest b -ℤ pos 1) a (negsuc c) (neg_ℤ (pos (suc c % nat_abs y))) h (omega (arith, ints)) (omega (arith, ints)) (omega (arith, ints))
  where
    below : (r d : ℕ) → nat_abs (neg_ℤ (pos r)) < d → r < d
    below zero d h = h
    below (suc r) d h = h

-- a divisor that is not 0
divides-by : (y : ℤ) → 0 < nat_abs y → int_eq y (pos 0) ≡ false
divides-by (pos zero) h = absurd (omega arith)
divides-by (pos (suc c)) h = grind (arith, ints)
divides-by (negsuc c) h = refl

-- a quotient and a remainder need a divisor's range without 0
abbrev pub CanMultiply : MulOp → Range → Type 0
CanMultiply times b = Unit {0}
CanMultiply divided b = in_range b (pos 0) ≡ false
CanMultiply modulo b = in_range b (pos 0) ≡ false

pub multiply-holds : (op : MulOp) (a b : Range) (x y : ℤ) → CanMultiply op b → Lies a x → Lies b y → Lies (mul_ranges op a b) (multiplied op x y)
multiply-holds times a b x y n h k = times-holds a b x y h k
multiply-holds divided a b x y n h k = subst (λ z. Lies (corner_range int_div a b) (if z then pos 0 else int_div x y)) (sym (divides-by y (not-zero b y n k))) (quot-holds a b x y n h k)
multiply-holds modulo a b x y n h k = subst (λ z. Lies (rem_range (greatest b -ℤ pos 1) a) (if z then pos 0 else int_rem x y)) (sym (divides-by y (not-zero b y n k))) (rem-holds a b x y n h k)
