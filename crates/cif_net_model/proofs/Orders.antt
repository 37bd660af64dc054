-- Numbers in ranges, and the operators of intervals: each result of numbers in two ranges lies in the range of results.
use Rattle.std.proofs.Common.{Bool, true, false, IsTrue, ℤ, neg_ℤ, ◌≤ℤ◌, arith}
use Rattle.std.specs.Int.{int_min, int_max}
use Rattle.std.proofs.lemmas.Int.{ints, clamps}
use Rattle.cif_base.specs.Bounds.{of_four}
use Rattle.cif_system.specs.System.{Range, in_range}
use Rattle.cif_net_model.specs.Value.{added}
use Rattle.cif_net_model.specs.Interval.{between, point, joined, neg_range, add_ranges, as_range, min_ranges, max_ranges}

abbrev pub Lies : Range → ℤ → Type 0
Lies r z = (r.lo ≤ℤ z) × (z ≤ℤ r.hi)

pub lies-from_test : (r : Range) (z : ℤ) → IsTrue (in_range r z) → Lies r z
lies-from_test r z h = grind (arith, ints)

pub test-from_lies : (r : Range) (z : ℤ) → Lies r z → IsTrue (in_range r z)
test-from_lies r z h = grind (arith, ints)

pub le-trans : {a b c : ℤ} → a ≤ℤ b → b ≤ℤ c → a ≤ℤ c
le-trans h k = omega (arith, ints)

pub point-holds : (z : ℤ) → Lies (point z) z
point-holds z = omega (arith, ints)

pub neg-holds : (a : Range) (x : ℤ) → Lies a x → Lies (neg_range a) (neg_ℤ x)
neg-holds a x h = omega (arith, ints)

pub add-holds : (m : Bool) (a b : Range) (x y : ℤ) → Lies a x → Lies b y → Lies (add_ranges m a b) (added m x y)
add-holds true a b x y h k = omega (arith, ints)
add-holds false a b x y h k = omega (arith, ints)

min-left : (a b : ℤ) → int_min a b ≤ℤ a
min-left a b = omega (arith, ints, clamps)

min-right : (a b : ℤ) → int_min a b ≤ℤ b
min-right a b = omega (arith, ints, clamps)

max-left : (a b : ℤ) → a ≤ℤ int_max a b
max-left a b = omega (arith, ints, clamps)

max-right : (a b : ℤ) → b ≤ℤ int_max a b
max-right a b = omega (arith, ints, clamps)

pub joined-left : (a b : Range) (x : ℤ) → Lies a x → Lies (joined a b) x
joined-left a b x h = (le-trans (min-left a.lo b.lo) h.0, le-trans h.1 (max-left a.hi b.hi))

pub joined-right : (a b : Range) (x : ℤ) → Lies b x → Lies (joined a b) x
joined-right a b x h = (le-trans (min-right a.lo b.lo) h.0, le-trans h.1 (max-right a.hi b.hi))

pub min-holds : (a b : Range) (x y : ℤ) → Lies a x → Lies b y → Lies (min_ranges a b) (int_min x y)
min-holds a b x y h k = omega (arith, ints, clamps)

pub max-holds : (a b : Range) (x y : ℤ) → Lies a x → Lies b y → Lies (max_ranges a b) (int_max x y)
max-holds a b x y h k = omega (arith, ints, clamps)

-- ---- between two numbers

abbrev pub Between : ℤ → ℤ → ℤ → Type 0
Between p q z = Lies (between (int_min p q) (int_max p q)) z

pub rising : (p q z : ℤ) → p ≤ℤ z → z ≤ℤ q → Between p q z
rising p q z h k = (le-trans (min-left p q) h, le-trans k (max-right p q))

pub falling : (p q z : ℤ) → q ≤ℤ z → z ≤ℤ p → Between p q z
falling p q z h k = (le-trans (min-right p q) h, le-trans k (max-left p q))

least-of : (m a b : ℤ) → m ≤ℤ a → m ≤ℤ b → m ≤ℤ int_min a b
least-of m a b h k = omega (arith, ints, clamps)

most-of : (m a b : ℤ) → a ≤ℤ m → b ≤ℤ m → int_max a b ≤ℤ m
most-of m a b h k = omega (arith, ints, clamps)

-- v lies between t and u, each of which lies between two of four
pub four : (p q r s t u v : ℤ) → Between p q t → Between r s u → Between t u v → Lies (as_range (of_four p q r s)) v
four p q r s t u v h k l = (
  le-trans (least-of _ t u (le-trans (min-left _ _) h.0) (le-trans (min-right _ _) k.0)) l.0,
  le-trans l.1 (most-of _ t u (le-trans h.1 (max-left _ _)) (le-trans k.1 (max-right _ _))),
)
