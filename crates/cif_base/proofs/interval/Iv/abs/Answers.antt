use Rattle.std.proofs.Common.{arith}
use Rattle.std.proofs.lemmas.Int.{ints}
use Rattle.cif_base.specs.Bounds.{abs_bounds}
use Rattle.cif_base.proofs.interval.Iv.abs.Goals as goal

pub returns : goal.returns
returns c = c.narrowed.ensures (abs_bounds c.args.self) (omega (arith, ints)) (omega (arith, ints))
