use Rattle.std.proofs.Common.{◌≡◌, pos, false, int_div, to_z, of_z, w64, sym, ◌∙◌, ap, arith}
use Rattle.std.proofs.lemmas.Int.{ints}
use Rattle.cif_base.specs.Bounds.{Bounds, contains, within_64, div_bounds}
use Rattle.cif_base.proofs.Intervals.{at_equal, by_no_zero}
use Rattle.cif_base.proofs.interval.Iv.div.Goals as goal

pub returns : goal.returns
returns c =
    let p : to_z w64 (of_z w64 c.self.inside.lo) ≡ c.args.self.lo = omega (arith, ints, ap (λ (b : Bounds). b.lo) c.self.view_is) in
    let q : to_z w64 (of_z w64 c.self.inside.hi) ≡ c.args.self.hi = omega (arith, ints, ap (λ (b : Bounds). b.hi) c.self.view_is) in
    let s : to_z w64 (of_z w64 c.other.inside.lo) ≡ c.args.other.lo = omega (arith, ints, ap (λ (b : Bounds). b.lo) c.other.view_is) in
    let t : to_z w64 (of_z w64 c.other.inside.hi) ≡ c.args.other.hi = omega (arith, ints, ap (λ (b : Bounds). b.hi) c.other.view_is) in
    let i = at_equal int_div c.quotient.ensures p s in
    let j = at_equal int_div c.quotient-2.ensures p t in
    let k = at_equal int_div c.quotient-3.ensures q s in
    let l = at_equal int_div c.quotient-4.ensures q t in
    let n : contains c.args.other (pos 0) ≡ false = sym c.contains.ensures ∙ c.if-contains.false in
    by_no_zero c.args.other c.around.result (within_64 (div_bounds c.args.self c.args.other)) n
    (c.around.ensures (int_div c.args.self.lo c.args.other.lo) (int_div c.args.self.lo c.args.other.hi) (int_div c.args.self.hi c.args.other.lo) (int_div c.args.self.hi c.args.other.hi)
    (omega (arith, ints)) (omega (arith, ints)) (omega (arith, ints)) (omega (arith, ints)))
