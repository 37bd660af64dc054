use Rattle.std.proofs.Common.{◌≡◌, false, nat_le, refl, sym, arith}
use Rattle.grammar.specs.Bytes.{digits_from}
use Rattle.cif_lex.specs.Tokens.{number_of, small_number}
use Rattle.cif_lex.proofs.NumberLaws.{too_big_now}
use Rattle.cif_lex.proofs.numbers.small_number.Goals as goal

pub returns-then-value-gt-GREATEST_NUMBER : goal.returns-then-value-gt-GREATEST_NUMBER
unfolding small_number number_of
returns-then-value-gt-GREATEST_NUMBER c =
    let test : nat_le (digits_from 0 c.args.digits.now) 2147483647 ≡ false =
    sym (too_big_now 2147483647 c.loop-digit.value c.loop-digit.digit-index c.args.digits.now (omega arith) c.loop-digit.invariant.whole (omega arith)) in
    rw test refl
