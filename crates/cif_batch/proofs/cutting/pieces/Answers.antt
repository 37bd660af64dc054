use Rattle.cif_batch.proofs.CutLaws.{lines_and_last}
use Rattle.cif_batch.proofs.cutting.pieces.Goals as goal

pub returns-clause-lines : goal.returns-clause-lines
returns-clause-lines c = rw c.in_ok-push-2.ensures.items (lines_and_last c.loop.pieces.items c.loop.left c.loop.invariant.0)
