use Rattle.std.proofs.Common.{sym, arith}
use Rattle.cif_why.specs.Marks.{marked_row}
use Rattle.cif_why.proofs.MarkLaws.{place_past, replaced-by}
use Rattle.cif_why.proofs.marks.mark_row.Goals as goal

pub returns-then-at-len : goal.returns-then-at-len
returns-then-at-len c = replaced-by (marked_row c.args.numbers.now) c.args.rows.now _ _ c.args.edge _ _ _ c.replace-row.ensures.was c.replace-row.ensures.is c.mark_all.ensures c.set.ensures

pub returns-else-at-len : goal.returns-else-at-len
returns-else-at-len c = sym (place_past (marked_row c.args.numbers.now) c.args.rows.now c.args.edge (omega arith))
