use Rattle.std.proofs.Common.{◌≡◌, refl, append_assoc, arith}
use Rattle.st_print.specs.Layout.{line}
use Rattle.st_print.proofs.MarkLemmas.{so_far-mark, blanks-more}
use Rattle.st_print.proofs.printer.Printer.line.Goals as goal

pub loop-preserved : goal.loop-preserved
loop-preserved c = rw (c.in_ok-extend_from_slice.ensures.items, c.loop.invariant, blanks-more, append_assoc)

pub returns : goal.returns
returns c =
    let whole : c.loop.counter ≡ c.args.depth = omega arith in
    so_far-mark _ _ (line c.args.depth) (rw (← whole) c.loop.invariant) refl
