use Rattle.std.proofs.Common.{◌≡◌, pos, ◌≤ℤ◌, ◌-ℤ◌, false, to_z, of_z, sym, ◌∙◌, ap, arith}
use Rattle.std.specs.Int.{w128}
use Rattle.std.proofs.lemmas.Int.{ints, clamps}
use Rattle.cif_base.specs.Bounds.{Bounds, contains, greatest_abs, least_rem, greatest_rem, rem_bounds, within_64}
use Rattle.cif_base.proofs.Intervals.{at_equal, by_no_zero}
use Rattle.cif_base.proofs.interval.Iv.rem.Goals as goal

at_least_one : (b : Bounds) → contains b (pos 0) ≡ false → pos 1 ≤ℤ greatest_abs b
at_least_one b n = grind (arith, ints, clamps)

pub greatest_rem-requires : goal.greatest_rem-requires
greatest_rem-requires c =
    let n : contains c.args.other (pos 0) ≡ false = sym c.contains.ensures ∙ c.if-contains.false in
    let k = at_least_one c.args.other n in
    let m : c.greatest_abs-most.result ≡ greatest_abs c.args.other = c.greatest_abs-most.ensures in
    omega (arith, ints)

pub returns : goal.returns
returns c =
    let n : contains c.args.other (pos 0) ≡ false = sym c.contains.ensures ∙ c.if-contains.false in
    let k = at_least_one c.args.other n in
    let g : c.greatest_abs-most.result ≡ greatest_abs c.args.other = c.greatest_abs-most.ensures in
    let m : to_z w128 (of_z w128 (to_z w128 (of_z w128 c.greatest_abs-most.result) -ℤ pos 1)) ≡ greatest_abs c.args.other -ℤ pos 1 = omega (arith, ints) in
    let p : to_z w128 (of_z w128 c.from.result) ≡ c.args.self.lo = omega (arith, ints, ap (λ (b : Bounds). b.lo) c.self.view_is) in
    let q : to_z w128 (of_z w128 c.from-2.result) ≡ c.args.self.hi = omega (arith, ints, ap (λ (b : Bounds). b.hi) c.self.view_is) in
    let i = at_equal least_rem c.least_rem.ensures.value m p in
    let j = at_equal greatest_rem c.greatest_rem.ensures.value m q in
    by_no_zero c.args.other c.narrowed.result (within_64 (rem_bounds c.args.self c.args.other)) n
    (c.narrowed.ensures (rem_bounds c.args.self c.args.other) (omega (arith, ints)) (omega (arith, ints)))
