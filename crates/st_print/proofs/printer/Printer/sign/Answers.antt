use Rattle.std.proofs.Common.{◌≡◌, ◌||◌}
use Rattle.st_print.specs.Layout.{sign, closes}
use Rattle.st_print.proofs.MarkLemmas.{so_far-mark}
use Rattle.st_print.proofs.printer.Printer.sign.Goals as goal
use Rattle.st_print.proofs.printer.Printer.sign.Goals.{then-self, else-self}

pub returns : goal.returns
returns c =
    let joined : c.if-self.put ≡ (c.args.self.now.fresh || closes c.args.text.now) =
    elim c.if-self.branch [ then-self w ↦ rw (w.put-is, w.if-self.true) | else-self w ↦ rw (w.put-is, w.if-self.false, w.is_closing.ensures) ] in
    so_far-mark _ _ (sign c.args.text.now) (rw (← joined) c.in_ok-put.ensures.bytes) c.is_opening-self.ensures
