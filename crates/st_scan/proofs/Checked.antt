-- What a checked sum or difference tells.
use Rattle.std.proofs.Common.{◌≡◌, ◌<◌, ◌^◌, pos, negsuc, ℤ, refl, ap, arith, Option, Some, None, Bool, true, false, ◌⊎◌, inl, inr}
use Rattle.std.specs.Prelude.{Ok}
use Rattle.std.specs.Int.{w64}
use Rattle.std.specs.Int.RustNames.{FitsSigned}
use Rattle.std.specs.Option.{SomeIff}
use Rattle.std.proofs.lemmas.Bool.Decides.{nat_tests}
use Rattle.st_ast.specs.Values.{fits, checked}
use Rattle.st_scan.specs.Told.{or_overflow}

pub fits-true : (z : ℤ) → FitsSigned w64 z → fits 64 z ≡ true
fits-true (pos n) h = let k : n < 2 ^ 63 = h.sfits in grind (arith, nat_tests)
fits-true (negsuc n) h = let k : n < 2 ^ 63 = h.sfits in grind (arith, nat_tests)

pub fits-sound : (z : ℤ) → fits 64 z ≡ true → FitsSigned w64 z
fits-sound (pos n) e = let k : n < 2 ^ 63 = grind (arith, nat_tests) in record { sfits = k }
fits-sound (negsuc n) e = let k : n < 2 ^ 63 = grind (arith, nat_tests) in record { sfits = k }

cases_Bool : (b : Bool) → (b ≡ true) ⊎ (b ≡ false)
cases_Bool true = inl refl
cases_Bool false = inr refl

pub checked-is : (r : Option ℤ) (z : ℤ) → SomeIff r (FitsSigned w64 z) z → or_overflow r ≡ checked 64 z
checked-is None z h =
    elim (cases_Bool (fits 64 z)) [ inl e ↦ absurd (h (fits-sound z e)) | inr e ↦ rw e refl ]
checked-is (Some x) z h = rw (fits-true z h.0) (ap Ok h.1)

pub ruleset checks = (checked-is, fits-true, fits-sound)
