-- Ranges inside ranges: smaller ranges that hold numbers give smaller intervals.
use Rattle.std.proofs.Common.{◌≡◌, Bool, true, false, ℤ, pos, nat_abs, ◌-ℤ◌, ◌*ℤ◌, ◌≤ℤ◌, int_div, refl, arith}
use Rattle.std.proofs.lemmas.Int.{ints, clamps}
use Rattle.cif_base.specs.Bounds.{of_four}
use Rattle.cif_system.specs.System.{Range, in_range}
use Rattle.cif_net_expr.specs.Tree.{MulOp, times, divided, modulo}
use Rattle.cif_net_model.specs.Interval.{as_range, joined, neg_range, add_ranges, mul_ranges, abs_range, min_ranges, max_ranges}
use Rattle.cif_net_model.proofs.Orders.{Lies, le-trans}
use Rattle.cif_net_model.proofs.Corners.{corner_range, rem_range, greatest, CanMultiply, times-holds, quot-holds, abs-most, abs-holds, not-zero}

-- a lies inside b
abbrev pub Inside : Range → Range → Type 0
Inside a b = (b.lo ≤ℤ a.lo) × (a.hi ≤ℤ b.hi)

pub inside-self : (a : Range) → Inside a a
inside-self a = omega (arith, ints)

pub lies-inside : (a b : Range) (z : ℤ) → Inside a b → Lies a z → Lies b z
lies-inside a b z i h = (le-trans i.0 h.0, le-trans h.1 i.1)

-- the bounds of a range that holds a number
lo-lies : (a b : Range) (z : ℤ) → Inside a b → Lies a z → Lies b a.lo
lo-lies a b z i h = omega (arith, ints)

hi-lies : (a b : Range) (z : ℤ) → Inside a b → Lies a z → Lies b a.hi
hi-lies a b z i h = omega (arith, ints)

pub neg-inside : (a b : Range) → Inside a b → Inside (neg_range a) (neg_range b)
neg-inside a b i = omega (arith, ints)

pub add-inside : (m : Bool) (a b c d : Range) → Inside a b → Inside c d → Inside (add_ranges m a c) (add_ranges m b d)
add-inside true a b c d i j = omega (arith, ints)
add-inside false a b c d i j = omega (arith, ints)

pub joined-inside : (a b c d : Range) → Inside a b → Inside c d → Inside (joined a c) (joined b d)
joined-inside a b c d i j = omega (arith, ints, clamps)

pub min-inside : (a b c d : Range) → Inside a b → Inside c d → Inside (min_ranges a c) (min_ranges b d)
min-inside a b c d i j = omega (arith, ints, clamps)

pub max-inside : (a b c d : Range) → Inside a b → Inside c d → Inside (max_ranges a c) (max_ranges b d)
max-inside a b c d i j = omega (arith, ints, clamps)

four-inside : (p q s t : ℤ) (r : Range) → Lies r p → Lies r q → Lies r s → Lies r t → Inside (as_range (of_four p q s t)) r
four-inside p q s t r h i j k = omega (arith, ints, clamps)

-- both bounds of absolute values are such values, or 0 inside
pub abs-inside : (a b : Range) (z : ℤ) → Lies a z → Inside a b → Inside (abs_range a) (abs_range b)
abs-inside a b z h i =
    by (in_range a (pos 0)) refl (abs-holds b a.lo (lo-lies a b z i h)) (abs-holds b a.hi (hi-lies a b z i h))
  where
    by : (t : Bool) → in_range a (pos 0) ≡ t → Lies (abs_range b) (pos (nat_abs a.lo)) → Lies (abs_range b) (pos (nat_abs a.hi)) → Inside (abs_range a) (abs_range b)
    by true e p q = let o : Lies (abs_range b) (pos 0) = abs-holds b (pos 0) (lies-inside a b (pos 0) i (grind (arith, ints))) in grind (arith, ints, clamps)
    by false e p q = grind (arith, ints, clamps)

rem-inside : (m n : ℤ) (a b : Range) → pos 0 ≤ℤ n → m ≤ℤ n → Inside a b → Inside (rem_range m a) (rem_range n b)
rem-inside m n a b h k i = grind (arith, ints, clamps)

greatest-inside : (a b : Range) (z : ℤ) → Lies a z → Inside a b → greatest a ≤ℤ greatest b
greatest-inside a b z h i =
    let p : pos (nat_abs a.lo) ≤ℤ greatest b = abs-most b a.lo (lo-lies a b z i h) in
    let q : pos (nat_abs a.hi) ≤ℤ greatest b = abs-most b a.hi (hi-lies a b z i h) in
    omega (arith, ints, clamps)

-- no 0 outside, no 0 inside
pub zero-inside : (a b : Range) → Inside a b → in_range b (pos 0) ≡ false → in_range a (pos 0) ≡ false
zero-inside a b i h = grind (arith, ints)

pub can-inside : (op : MulOp) (a b : Range) → Inside a b → CanMultiply op b → CanMultiply op a
can-inside times a b i h = tt
can-inside divided a b i h = zero-inside a b i h
can-inside modulo a b i h = zero-inside a b i h

pub mul-inside : (op : MulOp) (a b c d : Range) (x y : ℤ) → CanMultiply op d → Lies a x → Lies c y → Inside a b → Inside c d → Inside (mul_ranges op a c) (mul_ranges op b d)
mul-inside times a b c d x y n h k i j =
    let p = lo-lies a b x i h in let q = hi-lies a b x i h in let s = lo-lies c d y j k in let t = hi-lies c d y j k in
    four-inside (a.lo *ℤ c.lo) (a.lo *ℤ c.hi) (a.hi *ℤ c.lo) (a.hi *ℤ c.hi) (corner_range (λ v w. v *ℤ w) b d)
    (times-holds b d a.lo c.lo p s) (times-holds b d a.lo c.hi p t) (times-holds b d a.hi c.lo q s) (times-holds b d a.hi c.hi q t)
mul-inside divided a b c d x y n h k i j =
    let p = lo-lies a b x i h in let q = hi-lies a b x i h in let s = lo-lies c d y j k in let t = hi-lies c d y j k in
    four-inside (int_div a.lo c.lo) (int_div a.lo c.hi) (int_div a.hi c.lo) (int_div a.hi c.hi) (corner_range int_div b d)
    (quot-holds b d a.lo c.lo n p s) (quot-holds b d a.lo c.hi n p t) (quot-holds b d a.hi c.lo n q s) (quot-holds b d a.hi c.hi n q t)
mul-inside modulo a b c d x y n h k i j =
    let o = not-zero d y n (lies-inside c d y j k) in
    let m : pos (nat_abs y) ≤ℤ greatest d = abs-most d y (lies-inside c d y j k) in
    let g = greatest-inside c d y k j in
    rem-inside (greatest c -ℤ pos 1) (greatest d -ℤ pos 1) a b (omega (arith, ints)) (omega (arith, ints)) i
