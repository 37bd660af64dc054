-- The number that a cell stands for.
use Rattle.std.proofs.Common.{◌≡◌, ◌==◌, ◌<◌, ◌^◌, ℕ, suc, ℤ, pos, negsuc, neg_ℤ, Bool, true, false, ◌&&◌, [], ◌∷◌, length, decimal, Option, Some, None, refl, sym, ap, ◌∙◌, arith, FitsSigned, w64, to_z, of_z}
use Rattle.std.specs.Prelude.{int_le, IfSome, if◌then◌else◌}
use Rattle.std.specs.Fmt.{signed_decimal}
use Rattle.std.proofs.lemmas.Bool.Decides.{nat_tests}
use Rattle.std.proofs.lemmas.Int.{to_z-of_z}
use Rattle.grammar.specs.Pieces.{Text, same, AllAre}
use Rattle.grammar.specs.Bytes.{is_digit, digits_from}
use Rattle.grammar.proofs.Texts.{same_self, same_equal, and_left, and_right}
use Rattle.grammar.proofs.Decimals.{decimal-value, decimal_digits, decimal_nonempty}
use Rattle.st_ast.specs.Interface.{lowest, highest, is_of_type}
use Rattle.st_ast.specs.declared.tree.StTy.TheVariants as ty
use Rattle.plc_rows.specs.Rows.{number_in, number_cell}
use Rattle.plc_rows.proofs.Remaining.{none_some}

no_minus : (b : ℕ) → is_digit b ≡ true → (b == 45) ≡ false
no_minus b e = go (b == 45) refl
  where
    go : (x : Bool) → (b == 45) ≡ x → x ≡ false
    go true q = absurd (grind (arith, nat_tests))
    go false q = refl

of_digits : (t : Text) → AllAre is_digit t → 0 < length t → number_in t ≡ pos (digits_from 0 t)
of_digits [] a l = absurd (omega (arith, l))
of_digits (b ∷ t) a l = let plain = no_minus b a.0 in rw plain refl

-- what is written for a number stands for it
pub number_back : (z : ℤ) → FitsSigned w64 z → number_in (signed_decimal z) ≡ z
number_back (pos n) h = of_digits (decimal n) (decimal_digits n) (decimal_nonempty n) ∙ ap pos (decimal-value n (omega (arith, h.sfits)))
number_back (negsuc n) h = ap (λ m. neg_ℤ (pos m)) (decimal-value (suc n) (omega (arith, h.sfits)))

-- a number between two of 64 bits has 64 bits
pub between : (lo hi z : ℤ) → FitsSigned w64 lo → FitsSigned w64 hi → (int_le lo z && int_le z hi) ≡ true → FitsSigned w64 z
between lo (pos m) (pos n) a b e =
    let bound : m < 2 ^ 63 = b.sfits in
    let under : int_le (pos n) (pos m) ≡ true = and_right (int_le lo (pos n)) (int_le (pos n) (pos m)) e in
    let k : n < 2 ^ 63 = grind (arith, nat_tests) in record { sfits = k }
between lo (negsuc m) (pos n) a b e = absurd (let under : int_le (pos n) (negsuc m) ≡ true = and_right (int_le lo (pos n)) (int_le (pos n) (negsuc m)) e in cc)
between (pos m) hi (negsuc n) a b e = absurd (let above : int_le (pos m) (negsuc n) ≡ true = and_left (int_le (pos m) (negsuc n)) (int_le (negsuc n) hi) e in cc)
between (negsuc m) hi (negsuc n) a b e =
    let bound : m < 2 ^ 63 = a.sfits in
    let above : int_le (negsuc m) (negsuc n) ≡ true = and_left (int_le (negsuc m) (negsuc n)) (int_le (negsuc n) hi) e in
    let k : n < 2 ^ 63 = grind (arith, nat_tests) in record { sfits = k }

-- the numbers of a LINT are those of 64 bits
pub fits_all : (z : ℤ) → FitsSigned w64 z → is_of_type ty.Lint z ≡ true
fits_all (pos n) h = let k : n < 2 ^ 63 = h.sfits in grind (arith, nat_tests)
fits_all (negsuc n) h = let k : n < 2 ^ 63 = h.sfits in grind (arith, nat_tests)

pub fitting : (z : ℤ) → is_of_type ty.Lint z ≡ true → FitsSigned w64 z
fitting z e = between (lowest ty.Lint) (highest ty.Lint) z (record { sfits = omega arith }) (record { sfits = omega arith }) e

-- a comparison of numbers of 64 bits
pub compared : (a b : ℤ) (r : Bool) → FitsSigned w64 a → FitsSigned w64 b → int_le (to_z w64 (of_z w64 a)) (to_z w64 (of_z w64 b)) ≡ r → int_le a b ≡ r
compared a b r f g e = ap (λ x. int_le x b) (sym (to_z-of_z w64 a f)) ∙ ap (int_le (to_z w64 (of_z w64 a))) (sym (to_z-of_z w64 b g)) ∙ e

pub either_out : (a b : Bool) → b ≡ false → (a && b) ≡ false
either_out true b e = e
either_out false b e = refl

-- ---- what a reader of decimals tells of a cell, of numbers of 64 bits

pub no_number : (test : ℤ → Bool) (t : Text) (r : Option ℤ) → r ≡ None → ((z : ℤ) → FitsSigned w64 z → t ≡ signed_decimal z → r ≡ Some z)
    → ((z : ℤ) → test z ≡ true → FitsSigned w64 z) → number_cell test t ≡ None
no_number test t r e reads few = go (same t (signed_decimal (number_in t)) && test (number_in t)) refl
  where
    go : (b : Bool) → (same t (signed_decimal (number_in t)) && test (number_in t)) ≡ b → (if b then Some (number_in t) else None) ≡ None
    go true is =
        none_some (sym e ∙ reads (number_in t) (few (number_in t) (and_right (same t (signed_decimal (number_in t))) (test (number_in t)) is))
        (same_equal t (signed_decimal (number_in t)) (and_left (same t (signed_decimal (number_in t))) (test (number_in t)) is)))
    go false is = refl

pub a_number : (test : ℤ → Bool) (t : Text) (z : ℤ) (b : Bool) → t ≡ signed_decimal z → FitsSigned w64 z → test z ≡ b → number_cell test t ≡ (if b then Some z else None)
a_number test t z b e h is =
    let back : number_in t ≡ z = ap number_in e ∙ number_back z h in
    let written : same t (signed_decimal z) ≡ true = ap (same t) (sym e) ∙ same_self t in
    ap (λ y. if same t (signed_decimal y) && test y then Some y else None) back ∙ ap (λ w. if w && test z then Some z else None) written ∙ ap (λ w. if w then Some z else None) is

-- a number of 64 bits
pub any_number : (t : Text) (r : Option ℤ) → IfSome r (λ z. t ≡ signed_decimal z) → ((z : ℤ) → FitsSigned w64 z → t ≡ signed_decimal z → r ≡ Some z) → IfSome r (λ z. FitsSigned w64 z) → r ≡ number_cell (is_of_type ty.Lint) t
any_number t None is reads few = sym (no_number (is_of_type ty.Lint) t None refl reads fitting)
any_number t (Some z) is reads few = sym (a_number (is_of_type ty.Lint) t z true is few (fits_all z few))
