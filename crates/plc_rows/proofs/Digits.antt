-- The decimal text of a number of one digit.
use Rattle.std.proofs.Common.{◌≡◌, ◌+◌, ◌≤◌, ℕ, pos, [], ◌∷◌, arith}
use Rattle.std.specs.Fmt.{signed_decimal}
use Rattle.std.proofs.lemmas.Fmt.{decimal_digit}

pub one_digit : (n : ℕ) → n ≤ 9 → signed_decimal (pos n) ≡ (48 + n) ∷ []
one_digit n h = decimal_digit n (omega arith)

pub ruleset digits = (one_digit)
