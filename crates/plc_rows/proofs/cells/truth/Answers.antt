use Rattle.std.proofs.Common.{codes, false, refl}
use Rattle.plc_rows.proofs.Checking.{told_alike}
use Rattle.plc_rows.proofs.cells.truth.Goals as goal

pub returns : goal.returns
returns c =
    let a = told_alike c.eq.result c.args.cell.now c.as_slice.result.now (codes "TRUE") false c.eq.ensures c.as_slice.ensures c.if-eq.false in
    let b = told_alike c.eq-else-eq.result c.args.cell.now c.as_slice-else-eq.result.now (codes "true") false c.eq-else-eq.ensures c.as_slice-else-eq.ensures c.if-eq-2.false in
    let d = told_alike c.eq-else-eq-2.result c.args.cell.now c.as_slice-else-eq-2.result.now (codes "1") false c.eq-else-eq-2.ensures c.as_slice-else-eq-2.ensures c.if-eq-3.false in
    let e = told_alike c.eq-2.result c.args.cell.now c.as_slice-2.result.now (codes "FALSE") false c.eq-2.ensures c.as_slice-2.ensures c.if-eq-4.false in
    let f = told_alike c.eq-else-eq-4.result c.args.cell.now c.as_slice-else-eq-4.result.now (codes "false") false c.eq-else-eq-4.ensures c.as_slice-else-eq-4.ensures c.if-eq-5.false in
    let g = told_alike c.eq-else-eq-5.result c.args.cell.now c.as_slice-else-eq-5.result.now (codes "0") false c.eq-else-eq-5.ensures c.as_slice-else-eq-5.ensures c.if-eq-6.false in
    rw (a, b, d, e, f, g) refl
