use Rattle.std.proofs.Common.{◌≡◌, to_z, of_z, arith}
use Rattle.std.specs.Int.{w128, int_min, int_max}
use Rattle.std.proofs.lemmas.Int.{ints, clamps}
use Rattle.cif_base.specs.Bounds.{of_four}
use Rattle.cif_base.proofs.Intervals.{at_equal}
use Rattle.cif_base.proofs.interval.around.Goals as goal

pub narrowed-requires : goal.narrowed-requires
narrowed-requires c = omega (arith, ints, clamps)

pub returns : goal.returns
returns c p q r s e f g h =
    let ea : to_z w128 (of_z w128 c.args.a) ≡ p = omega (arith, ints) in
    let eb : to_z w128 (of_z w128 c.args.b) ≡ q = omega (arith, ints) in
    let ec : to_z w128 (of_z w128 c.args.c) ≡ r = omega (arith, ints) in
    let ed : to_z w128 (of_z w128 c.args.d) ≡ s = omega (arith, ints) in
    let i = at_equal int_min c.min.ensures.value ea eb in
    let j = at_equal int_min c.min-2.ensures.value ec ed in
    let k = at_equal int_max c.max.ensures.value ea eb in
    let l = at_equal int_max c.max-2.ensures.value ec ed in
    let m : to_z w128 (of_z w128 c.min.result) ≡ int_min p q = omega (arith, ints) in
    let n : to_z w128 (of_z w128 c.min-2.result) ≡ int_min r s = omega (arith, ints) in
    let t : to_z w128 (of_z w128 c.max.result) ≡ int_max p q = omega (arith, ints) in
    let u : to_z w128 (of_z w128 c.max-2.result) ≡ int_max r s = omega (arith, ints) in
    let v = at_equal int_min c.min-3.ensures.value m n in
    let w = at_equal int_max c.max-3.ensures.value t u in
    c.narrowed.ensures (of_four p q r s) (omega (arith, ints)) (omega (arith, ints))
