use Rattle.std.proofs.Common.{◌≡◌, ◌++◌, refl, rules}
use Rattle.std.specs.Fmt.{signed_decimal}
use Rattle.st_print.proofs.MarkLemmas.{so_far-number, written-twice}
use Rattle.st_print.proofs.printer.Printer.number.Goals as goal

pub returns : goal.returns
returns c =
    let digits : c.put_int.new.into.items ≡ c.gap.new.self.bytes.items ++ signed_decimal c.args.value = search rules in
    so_far-number _ _ c.args.value (written-twice _ _ _ _ _ c.in_ok-gap.ensures.bytes digits) refl
