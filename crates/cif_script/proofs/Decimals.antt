-- The number that a canonical decimal stands for.
use Rattle.std.proofs.Common.{◌≡◌, ◌==◌, ◌<◌, ◌^◌, ℕ, suc, ℤ, pos, negsuc, neg_ℤ, Bool, true, false, ◌&&◌, [], ◌∷◌, length, decimal, Option, Some, None, refl, sym, ap, ◌∙◌, arith, FitsSigned, w64}
use Rattle.std.specs.Prelude.{IfSome, if◌then◌else◌}
use Rattle.std.specs.Fmt.{signed_decimal}
use Rattle.std.proofs.lemmas.Bool.Decides.{nat_tests}
use Rattle.cif_base.specs.Bounds.{in_64_bits}
use Rattle.cif_system.proofs.Lists.{none-some}
use Rattle.grammar.specs.Pieces.{Text, same, AllAre}
use Rattle.grammar.specs.Bytes.{is_digit, digits_from}
use Rattle.grammar.proofs.Texts.{same_self, same_equal, and_left, and_right}
use Rattle.grammar.proofs.Decimals.{decimal-value, decimal_digits, decimal_nonempty}
use Rattle.cif_sim_model.specs.Script.{number_in, decimal_read}

no_minus : (b : ℕ) → is_digit b ≡ true → (b == 45) ≡ false
no_minus b e = go (b == 45) refl
  where
    go : (x : Bool) → (b == 45) ≡ x → x ≡ false
    go true q = absurd (grind (arith, nat_tests))
    go false q = refl

of_digits : (t : Text) → AllAre is_digit t → 0 < length t → number_in t ≡ pos (digits_from 0 t)
of_digits [] a l = absurd (omega (arith, l))
of_digits (b ∷ t) a l = let plain = no_minus b a.0 in rw plain refl

-- what is written for a number stands for it
number_back : (z : ℤ) → FitsSigned w64 z → number_in (signed_decimal z) ≡ z
number_back (pos n) h = of_digits (decimal n) (decimal_digits n) (decimal_nonempty n) ∙ ap pos (decimal-value n (omega (arith, h.sfits)))
number_back (negsuc n) h = ap (λ m. neg_ℤ (pos m)) (decimal-value (suc n) (omega (arith, h.sfits)))

-- the numbers of 64 bits
fits_all : (z : ℤ) → FitsSigned w64 z → in_64_bits z ≡ true
fits_all (pos n) h = let k : n < 2 ^ 63 = h.sfits in grind (arith, nat_tests)
fits_all (negsuc n) h = let k : n < 2 ^ 63 = h.sfits in grind (arith, nat_tests)

fitting : (z : ℤ) → in_64_bits z ≡ true → FitsSigned w64 z
fitting (pos n) e = let k : n < 2 ^ 63 = grind (arith, nat_tests) in record { sfits = k }
fitting (negsuc n) e = let k : n < 2 ^ 63 = grind (arith, nat_tests) in record { sfits = k }

-- what a reader of decimals returns is the number of the definition
pub is_decimal_read : (t : Text) (r : Option ℤ) → IfSome r (λ z. t ≡ signed_decimal z) → IfSome r (λ z. FitsSigned w64 z) → ((z : ℤ) → FitsSigned w64 z → t ≡ signed_decimal z → r ≡ Some z)
    → r ≡ decimal_read t
is_decimal_read t None some fits reads = go (same t (signed_decimal (number_in t)) && in_64_bits (number_in t)) refl
  where
    go : (b : Bool) → (same t (signed_decimal (number_in t)) && in_64_bits (number_in t)) ≡ b → None ≡ (if b then Some (number_in t) else None)
    go true is =
        absurd (none-some (number_in t) (reads (number_in t) (fitting (number_in t) (and_right (same t (signed_decimal (number_in t))) (in_64_bits (number_in t)) is))
        (same_equal t (signed_decimal (number_in t)) (and_left (same t (signed_decimal (number_in t))) (in_64_bits (number_in t)) is))))
    go false is = refl
is_decimal_read t (Some z) some fits reads =
    let back : number_in t ≡ z = ap number_in some ∙ number_back z fits in
    let here : same t (signed_decimal (number_in t)) ≡ true = ap (λ w. same t (signed_decimal w)) back ∙ ap (λ x. same t x) (sym some) ∙ same_self t in
    let there : in_64_bits (number_in t) ≡ true = ap in_64_bits back ∙ fits_all z fits in
    ap Some (sym back) ∙ (λ i. if (sym here i && sym there i) then Some (number_in t) else None)
