use Rattle.st_print.proofs.MarkLemmas.{written-twice}
use Rattle.st_print.proofs.printer.Printer.put.Goals as goal

pub returns-clause-bytes : goal.returns-clause-bytes
returns-clause-bytes c = written-twice _ _ _ _ _ c.in_ok-gap.ensures.bytes c.in_ok-extend_from_slice.ensures.items
