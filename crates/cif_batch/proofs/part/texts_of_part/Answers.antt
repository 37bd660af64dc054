use Rattle.std.proofs.Common.{◌+◌, arith, add-one}
use Rattle.st_ast.specs.View.{view}
use Rattle.cif_batch.proofs.PartLaws.{stops_at}
use Rattle.cif_batch.proofs.part.texts_of_part.Goals as goal

pub returns-in-Err-Scan-clause-stops : goal.returns-in-Err-Scan-clause-stops
returns-in-Err-Scan-clause-stops g c =
    let l = c.loop-k in
    let stop = rw c.in-Err-Scan.field-0-is at c.in-Err-Scan.ensures.stops in
    (l.k + 1, omega arith, rw (add-one l.k) (stops_at (view c.args.program.now) c.args.cases.now l.k _ c.index-cases-k.result c.as_slice.result.now l.texts _ l.invariant c.loop-k-test.true c.index-cases-k.is c.as_slice.ensures (rw (← c.in-Err-Scan.row-is, ← c.in-Err-Scan.error-is) at stop)))
