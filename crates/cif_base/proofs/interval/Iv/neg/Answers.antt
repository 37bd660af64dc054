use Rattle.std.proofs.Common.{ap, arith}
use Rattle.std.proofs.lemmas.Int.{ints}
use Rattle.cif_base.specs.Bounds.{Bounds, neg_bounds}
use Rattle.cif_base.proofs.interval.Iv.neg.Goals as goal

pub returns : goal.returns
returns c =
    let p = ap (λ (b : Bounds). b.lo) c.self.view_is in
    let q = ap (λ (b : Bounds). b.hi) c.self.view_is in
    c.narrowed.ensures (neg_bounds c.args.self) (omega (arith, ints)) (omega (arith, ints))
