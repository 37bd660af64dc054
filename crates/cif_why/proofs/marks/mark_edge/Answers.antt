use Rattle.std.proofs.Common.{sym, arith}
use Rattle.cif_why.specs.Marks.{at_place, marked_row}
use Rattle.cif_why.proofs.MarkLaws.{place_past, replaced-by}
use Rattle.cif_why.proofs.marks.mark_edge.Goals as goal

pub returns-then-at-len : goal.returns-then-at-len
returns-then-at-len c = replaced-by (at_place (marked_row c.args.numbers.now) c.args.edge) c.args.marks.now _ _ c.args.automaton _ _ _ c.replace-rows.ensures.was c.replace-rows.ensures.is c.mark_row.ensures c.set.ensures

pub returns-else-at-len : goal.returns-else-at-len
returns-else-at-len c = sym (place_past (at_place (marked_row c.args.numbers.now) c.args.edge) c.args.marks.now c.args.automaton (omega arith))
