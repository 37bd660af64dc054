-- The piece taken is the next part of the text.
use Rattle.std.proofs.Common.{arith, length-drop}
use Rattle.cif_io.proofs.Growth.{grown-next}
use Rattle.cif_io.proofs.sink.put_all.Goals as goal

pub loop-at-preserved : goal.loop-at-preserved
loop-at-preserved g c = (
  grind (arith, length-drop),
  grown-next _ _ _ _ c.loop-at.at c.in_ok-at.field-0 c.loop-at.invariant.1 c.in_ok-at.ensures.taken.2,
  omega (arith, c.loop-at.invariant.2, c.in_ok-at.ensures.faults_stay_or_rise),
)
