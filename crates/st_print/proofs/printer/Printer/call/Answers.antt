use Rattle.std.proofs.Common.{refl}
use Rattle.st_print.specs.Layout.{call}
use Rattle.st_print.proofs.MarkLemmas.{so_far-mark}
use Rattle.st_print.proofs.printer.Printer.call.Goals as goal

pub returns : goal.returns
returns c = so_far-mark _ _ call c.in_ok-put.ensures.bytes refl
