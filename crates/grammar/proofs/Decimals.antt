-- What is written for a number is digits, at least one, and they stand for that number.
use Rattle.std.proofs.Common.{◌≡◌, ◌==◌, ℕ, zero, suc, ◌+◌, ◌-◌, ◌*◌, ◌/◌, ◌%◌, ◌^◌, ◌≤◌, ◌<◌, Bool, true, false, cond, [], ◌∷◌, length, ap, ◌∙◌, refl, arith}
use Rattle.std.specs.Fmt.{decimal, digits, digits_onto, digit_glyph}
use Rattle.std.specs.Char.{digit_value}
use Rattle.std.specs.Str.Parse.{AllDigits, digits_value_after}
use Rattle.std.proofs.lemmas.Fmt.{decimal_is_IsNumeral_wide}
use Rattle.std.proofs.lemmas.Str.{digit_value_digit}
use Rattle.std.proofs.lemmas.Str.Parse.{digit_from_value}
use Rattle.std.proofs.lemmas.Bool.Decides.{nat_tests}
use Rattle.grammar.specs.Pieces.{Text, AllAre}
use Rattle.grammar.specs.Bytes.{is_digit, digits_from}

-- ---- the number

-- more digits make no smaller number
pub grows : (n : ℕ) (ds : Text) → n ≤ digits_from n ds
grows n [] = omega arith
grows n (b ∷ bs) = let more = grows (10 * n + (b - 48)) bs in omega (arith, more)

digits_from-value : (n : ℕ) (ds : Text) → AllDigits 10 ds → digits_from n ds ≡ digits_value_after 10 n ds
digits_from-value n [] d = refl
digits_from-value n (c ∷ cs) d =
    let e : 10 * n + (c - 48) ≡ n * 10 + digit_value c = omega (arith, digit_value_digit c (digit_from_value c d.0)) in
    ap (λ m. digits_from m cs) e ∙ digits_from-value (n * 10 + digit_value c) cs d.1

-- what is written for n stands for n
pub decimal-value : (n : ℕ) → n < 10 ^ 64 → digits_from 0 (decimal n) ≡ n
decimal-value n h = let d = decimal_is_IsNumeral_wide n h in digits_from-value 0 (decimal n) d.0.1 ∙ d.1

-- ---- the digits

glyph_is_digit : (n : ℕ) → is_digit (digit_glyph false (n % 10)) ≡ true
glyph_is_digit n = let small : n % 10 < 10 = omega arith in go (n % 10) small
  where
    go : (d : ℕ) → d < 10 → is_digit (digit_glyph false d) ≡ true
    go d h = grind (arith, nat_tests)

-- digits before digits
digits_onto-digits : (k n : ℕ) (acc : Text) → AllAre is_digit acc → AllAre is_digit (digits_onto k 10 false n acc)
digits_onto-digits zero n acc a = a
digits_onto-digits (suc k) n acc a = go (n / 10 == 0) (digits_onto-digits k (n / 10) (digit_glyph false (n % 10) ∷ acc) (glyph_is_digit n, a))
  where
    go : (b : Bool) → AllAre is_digit (digits_onto k 10 false (n / 10) (digit_glyph false (n % 10) ∷ acc))
        → AllAre is_digit (cond b (digit_glyph false (n % 10) ∷ acc) (digits_onto k 10 false (n / 10) (digit_glyph false (n % 10) ∷ acc)))
    go true more = (glyph_is_digit n, a)
    go false more = more

pub decimal_digits : (n : ℕ) → AllAre is_digit (decimal n)
unfolding digits
decimal_digits n = digits_onto-digits 64 n [] tt

digits_onto-length : (k n : ℕ) (acc : Text) → length acc ≤ length (digits_onto k 10 false n acc)
digits_onto-length zero n acc = omega arith
digits_onto-length (suc k) n acc = go (n / 10 == 0) (digits_onto-length k (n / 10) (digit_glyph false (n % 10) ∷ acc))
  where
    go : (b : Bool) → length (digit_glyph false (n % 10) ∷ acc) ≤ length (digits_onto k 10 false (n / 10) (digit_glyph false (n % 10) ∷ acc))
        → length acc ≤ length (cond b (digit_glyph false (n % 10) ∷ acc) (digits_onto k 10 false (n / 10) (digit_glyph false (n % 10) ∷ acc)))
    go true more = omega arith
    go false more = omega arith

pub decimal_nonempty : (n : ℕ) → 0 < length (decimal n)
unfolding digits
decimal_nonempty n = go (n / 10 == 0)
  where
    go : (b : Bool) → 0 < length (cond b (digit_glyph false (n % 10) ∷ []) (digits_onto 63 10 false (n / 10) (digit_glyph false (n % 10) ∷ [])))
    go true = omega arith
    go false = let more = digits_onto-length 63 (n / 10) (digit_glyph false (n % 10) ∷ []) in omega arith
