-- What checked operators give.
use Rattle.std.proofs.Common.{◌≡◌, ◌<◌, ◌^◌, pos, negsuc, ℤ, refl, ap, arith, Option, Some, None, Bool, true, false, ◌⊎◌, inl, inr}
use Rattle.std.specs.Int.{w64}
use Rattle.std.specs.Int.RustNames.{FitsSigned}
use Rattle.std.specs.Option.{SomeIff}
use Rattle.std.proofs.lemmas.Bool.Decides.{nat_tests}
use Rattle.cif_inst_constants.specs.Checked.{fits_64, checked}

pub fits-true : (z : ℤ) → FitsSigned w64 z → fits_64 z ≡ true
fits-true (pos n) h = let k : n < 2 ^ 63 = h.sfits in grind (arith, nat_tests)
fits-true (negsuc n) h = let k : n < 2 ^ 63 = h.sfits in grind (arith, nat_tests)

pub fits-sound : (z : ℤ) → fits_64 z ≡ true → FitsSigned w64 z
fits-sound (pos n) e = let k : n < 2 ^ 63 = grind (arith, nat_tests) in record { sfits = k }
fits-sound (negsuc n) e = let k : n < 2 ^ 63 = grind (arith, nat_tests) in record { sfits = k }

cases_Bool : (b : Bool) → (b ≡ true) ⊎ (b ≡ false)
cases_Bool true = inl refl
cases_Bool false = inr refl

-- a number of 64 bits is kept
pub checked-fits : (z : ℤ) → FitsSigned w64 z → checked z ≡ Some z
checked-fits z h = rw (fits-true z h) refl

pub checked-is : (r : Option ℤ) (z : ℤ) → SomeIff r (FitsSigned w64 z) z → r ≡ checked z
checked-is None z h =
    elim (cases_Bool (fits_64 z)) [ inl e ↦ absurd (h (fits-sound z e)) | inr e ↦ rw e refl ]
checked-is (Some x) z h = rw (fits-true z h.0) (ap Some h.1)

pub ruleset checks = (checked-is, checked-fits, fits-true, fits-sound)
