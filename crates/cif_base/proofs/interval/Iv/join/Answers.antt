use Rattle.std.proofs.Common.{ap, arith}
use Rattle.std.proofs.lemmas.Int.{ints, clamps}
use Rattle.cif_base.specs.Bounds.{Bounds, join_bounds}
use Rattle.cif_base.proofs.interval.Iv.join.Goals as goal

pub kept-requires : goal.kept-requires
kept-requires c = omega (arith, ints, clamps)

pub returns : goal.returns
returns c =
    let p = ap (λ (b : Bounds). b.lo) c.self.view_is in
    let q = ap (λ (b : Bounds). b.hi) c.self.view_is in
    let s = ap (λ (b : Bounds). b.lo) c.other.view_is in
    let t = ap (λ (b : Bounds). b.hi) c.other.view_is in
    c.kept.ensures (join_bounds c.args.self c.args.other) (omega (arith, ints, clamps)) (omega (arith, ints, clamps))
