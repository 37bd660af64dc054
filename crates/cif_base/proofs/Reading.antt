-- The decimal text of a number of 64 bits is UTF-8 and parses as that number, the least one too.
use Rattle.std.proofs.Common.{◌≡◌, ℕ, suc, zero, ℤ, pos, negsuc, neg_ℤ, List, ◌∷◌, decimal, Result, Ok, Err, refl, sym, ap, subst, ◌∙◌, arith, FitsSigned, w64}
use Rattle.std.specs.Fmt.{signed_decimal}
use Rattle.std.specs.Str.{IsAscii, IsUtf8}
use Rattle.std.specs.Str.Parse.{ParsesSigned}
use Rattle.std.proofs.lemmas.Fmt.{IsAscii-decimal, decimal_is_IsNumeral}
use Rattle.std.proofs.lemmas.Result.{Ok-from_Ok_iff}
use Rattle.std.proofs.lemmas.Str.{IsUtf8-from_ascii}
use Rattle.std.proofs.lemmas.Str.Parse.{numerals_by_value, tells_digits, parse_signed_digits, parse_signed_minus}

ascii : (z : ℤ) → FitsSigned w64 z → IsAscii (signed_decimal z)
ascii (pos n) fits i = IsAscii-decimal n (omega (arith, fits.sfits)) i
ascii (negsuc n) fits zero = omega arith
ascii (negsuc n) fits (suc i) = IsAscii-decimal (suc n) (omega (arith, fits.sfits)) i

-- the text is UTF-8
pub is_utf8 : (z : ℤ) (text : List ℕ) → FitsSigned w64 z → text ≡ signed_decimal z → IsUtf8 text
is_utf8 z text fits e = subst IsUtf8 (sym e) (IsUtf8-from_ascii (signed_decimal z) (ascii z fits))

-- the text parses as the number
pub parses : {E : Type 0} (z : ℤ) (text : List ℕ) (r : Result ℤ E) → FitsSigned w64 z → text ≡ signed_decimal z → ParsesSigned w64 10 text r → r ≡ Ok z
parses (pos n) text r fits is h =
    let k = decimal_is_IsNumeral n (omega (arith, fits.sfits)) in
    let read = parse_signed_digits (numerals_by_value _ tells_digits) w64 (decimal n) r (subst (λ l. ParsesSigned w64 10 l r) is h) k.0.1 in
    Ok-from_Ok_iff r _ _ read (k.0.0, omega (arith, k.1, fits.sfits)) ∙ ap (λ m. Ok (pos m)) k.1
parses (negsuc n) text r fits is h =
    let k = decimal_is_IsNumeral (suc n) (omega (arith, fits.sfits)) in
    let read = parse_signed_minus (numerals_by_value _ tells_digits) w64 (45 ∷ decimal (suc n)) r (subst (λ l. ParsesSigned w64 10 l r) is h) refl in
    Ok-from_Ok_iff r _ _ read (k.0.1, k.0.0, omega (arith, k.1, fits.sfits)) ∙ ap (λ m. Ok (neg_ℤ (pos m))) k.1

pub one_outcome : {E : Type 0} {r : Result ℤ E} {y z : ℤ} → r ≡ Ok y → r ≡ Ok z → y ≡ z
one_outcome {r = r} e f = one_ok (sym e ∙ f)
  where
    one_ok : {E : Type 0} {y z : ℤ} → ◌≡◌ {A = Result ℤ E} (Ok y) (Ok z) → y ≡ z
    one_ok e = cc

pub no_outcome : {E : Type 0} {r : Result ℤ E} {x : E} {z : ℤ} → r ≡ Err x → r ≡ Ok z → ⊥
no_outcome {E = E} {x = x} {z = z} e f = let g : ◌≡◌ {A = Result ℤ E} (Err x) (Ok z) = sym e ∙ f in cc
