use Rattle.std.proofs.Common.{refl}
use Rattle.st_print.specs.Layout.{word}
use Rattle.st_print.proofs.MarkLemmas.{so_far-mark}
use Rattle.st_print.proofs.printer.Printer.word.Goals as goal

pub returns : goal.returns
returns c = so_far-mark _ _ (word c.args.text.now) c.in_ok-put.ensures.bytes refl
