-- The digits that a number is written with are a literal of that number.
use Rattle.std.proofs.Common.{◌≡◌, ℕ, ◌^◌, ◌≤◌, ◌<◌, arith}
use Rattle.std.specs.Fmt.{decimal}
use Rattle.std.proofs.lemmas.Bool.Decides.{nat_tests}
use Rattle.grammar.proofs.Decimals.{decimal-value}
use Rattle.st_ast.specs.Tokens.{number_of, greatest, kind_of_number}
use Rattle.st_ast.specs.declared.kinds.TokenKind.TheVariants as kinds

pub number_of-decimal : (n : ℕ) → n < 10 ^ 64 → number_of (decimal n) ≡ n
number_of-decimal n h = decimal-value n h

pub kind_of_number-decimal : (n : ℕ) → n ≤ greatest → kind_of_number (decimal n) ≡ kinds.Literal
kind_of_number-decimal n h =
    let small : n < 10 ^ 64 = omega arith in
    let is = number_of-decimal n small in
    rw is (grind (arith, nat_tests))
