use Rattle.std.proofs.Common.{◌≡◌, ◌*ℤ◌, to_z, of_z, w64, ap, arith}
use Rattle.std.proofs.lemmas.Int.{ints}
use Rattle.cif_base.specs.Bounds.{Bounds}
use Rattle.cif_base.proofs.Intervals.{at_equal}
use Rattle.cif_base.proofs.interval.Iv.mul.Goals as goal

pub returns : goal.returns
returns c =
    let p : to_z w64 (of_z w64 c.self.inside.lo) ≡ c.args.self.lo = omega (arith, ints, ap (λ (b : Bounds). b.lo) c.self.view_is) in
    let q : to_z w64 (of_z w64 c.self.inside.hi) ≡ c.args.self.hi = omega (arith, ints, ap (λ (b : Bounds). b.hi) c.self.view_is) in
    let s : to_z w64 (of_z w64 c.other.inside.lo) ≡ c.args.other.lo = omega (arith, ints, ap (λ (b : Bounds). b.lo) c.other.view_is) in
    let t : to_z w64 (of_z w64 c.other.inside.hi) ≡ c.args.other.hi = omega (arith, ints, ap (λ (b : Bounds). b.hi) c.other.view_is) in
    let i = at_equal (λ x y. x *ℤ y) c.product.ensures p s in
    let j = at_equal (λ x y. x *ℤ y) c.product-2.ensures p t in
    let k = at_equal (λ x y. x *ℤ y) c.product-3.ensures q s in
    let l = at_equal (λ x y. x *ℤ y) c.product-4.ensures q t in
    c.around.ensures (c.args.self.lo *ℤ c.args.other.lo) (c.args.self.lo *ℤ c.args.other.hi) (c.args.self.hi *ℤ c.args.other.lo) (c.args.self.hi *ℤ c.args.other.hi)
    (omega (arith, ints)) (omega (arith, ints)) (omega (arith, ints)) (omega (arith, ints))
