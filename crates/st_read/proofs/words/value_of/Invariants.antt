use Rattle.std.proofs.Common.{◌≡◌, ◌≤◌, ◌+◌, ◌*◌, drop}
use Rattle.grammar.specs.Bytes.{digits_from}
use Rattle.st_ast.specs.Tokens.{greatest}
use Rattle.st_read.proofs.words.value_of.Given as goal

abbrev pub invariant-loop-digit : goal.invariant-loop-digit
invariant-loop-digit l = (digits_from 0 l.digits ≡ digits_from l.value (drop l.digit-index l.digits)) × (l.value ≤ 10 * greatest + 255)
