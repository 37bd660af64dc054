use Rattle.std.proofs.Common.{◌≡◌, drop}
use Rattle.cif_why.specs.Marks.{marked_row}
use Rattle.cif_why.proofs.marks.mark_all.Given as goal

abbrev pub invariant-loop-number : goal.invariant-loop-number
invariant-loop-number l = marked_row (drop l.number-index l.numbers) l.row ≡ marked_row l.numbers l.initial.row
