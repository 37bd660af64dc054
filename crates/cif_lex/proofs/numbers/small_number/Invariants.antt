use Rattle.std.proofs.Common.{◌≡◌, ◌≤◌, drop}
use Rattle.grammar.specs.Bytes.{digits_from}
use Rattle.cif_lex.proofs.numbers.small_number.Given as goal

abbrev pub invariant-loop-digit : goal.invariant-loop-digit
invariant-loop-digit l = record {
  small : l.value ≤ 2147483647;
  whole : digits_from 0 l.digits ≡ digits_from l.value (drop l.digit-index l.digits);
}
