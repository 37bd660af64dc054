-- The numbers of a small type have literals, and a variable of such a type has a spelling.
use Rattle.std.proofs.Common.{◌≡◌, ℕ, suc, ◌≤◌, ℤ, pos, negsuc, true, ◌&&◌, List, [], ◌∷◌, map, Some, refl, arith, le-leb}
use Rattle.std.specs.Prelude.{◌-ℤ◌, int_le, nat_le, nat_lt}
use Rattle.std.specs.List.{AllByRecursion, list_all}
use Rattle.std.proofs.lemmas.Bool.Decides.{nat_tests}
use Rattle.std.proofs.lemmas.Int.{ints}
use Rattle.cif_base.specs.declared.types.Ty.{Ty}
use Rattle.cif_base.specs.declared.types.Ty.TheVariants as t
use Rattle.cif_system.specs.System.{in_range}
use Rattle.cif_system.proofs.Picks.{and-left, and-right}
use Rattle.cif_net_model.specs.Net.{NetStored}
use Rattle.cif_net_model.specs.Meaning.{type_range}
use Rattle.cif_net_model.specs.Facts.{is_type, stored_stands}
use Rattle.st_ast.specs.Spelled.{has_signed_literal, is_first_spelled, is_type_spelled}
use Rattle.plc_model.specs.Face.{literal_of}
use Rattle.plc_frame.specs.Faces.{st_type, stored_face}
use Rattle.plc_frame.specs.Small.{are_small, is_small}
use Rattle.plc_frame.proofs.Spelling.{FaceSpelled, both-true}

-- what is between such numbers has a literal
near : (z : ℤ) → int_le (negsuc 2147483647) z ≡ true → int_le z (pos 4294967295) ≡ true → has_signed_literal z ≡ true
near (pos k) a b = let h : k ≤ 4294967295 = grind (arith, ints) in le-leb k 9223372036854775807 (omega (arith, h))
near (negsuc k) a b = let h : k ≤ 2147483647 = grind (arith, ints) in le-leb (suc k) 9223372036854775807 (omega (arith, h))

at-least : (lo z : ℤ) → int_le (negsuc 2147483647) lo ≡ true → int_le lo z ≡ true → int_le (negsuc 2147483647) z ≡ true
at-least lo z a b = grind (arith, ints)

at-most : (hi z : ℤ) → int_le hi (pos 4294967295) ≡ true → int_le z hi ≡ true → int_le z (pos 4294967295) ≡ true
at-most hi z a b = grind (arith, ints)

widened : (z : ℤ) → int_le z (pos 2147483647) ≡ true → int_le z (pos 4294967295) ≡ true
widened z a = grind (arith, ints)

between : (lo hi z : ℤ) → int_le (negsuc 2147483647) lo ≡ true → int_le hi (pos 4294967295) ≡ true → (int_le lo z && int_le z hi) ≡ true → has_signed_literal z ≡ true
between lo hi z a b h = near z (at-least lo z a (and-left _ _ h)) (at-most hi z b (and-right _ _ h))

last-literal : (size : ℕ) → nat_le size 4294967295 ≡ true → int_le (pos size -ℤ pos 1) (pos 4294967295) ≡ true
last-literal size h = grind (arith, ints, nat_tests)

from-zero : (size : ℕ) → nat_lt 0 size ≡ true → int_le (pos 0) (pos size -ℤ pos 1) ≡ true
from-zero size h = grind (arith, ints, nat_tests)

pub type-spelled : (y : Ty) → is_type y ≡ true → is_small y ≡ true → is_type_spelled (st_type y) ≡ true
type-spelled t.Bool h small = refl
type-spelled (t.Int lo hi) h small =
    let lo-in = and-left _ _ (and-left _ _ h) in
    let hi-in = and-right _ _ (and-left _ _ h) in
    both-true (has_signed_literal lo) (has_signed_literal hi)
    (near lo (and-left _ _ lo-in) (widened lo (and-right _ _ lo-in)))
    (near hi (and-left _ _ hi-in) (widened hi (and-right _ _ hi-in)))
type-spelled (t.Enum size) h small =
    both-true true (has_signed_literal (pos size -ℤ pos 1)) refl
    (near (pos size -ℤ pos 1) (at-least (pos 0) (pos size -ℤ pos 1) refl (from-zero size h)) (last-literal size small))

pub first-spelled : (y : Ty) (z : ℤ) → is_type y ≡ true → is_small y ≡ true → in_range (type_range y) z ≡ true → is_first_spelled (Some (literal_of (st_type y) z)) ≡ true
first-spelled t.Bool z h small inside = refl
first-spelled (t.Int lo hi) z h small inside =
    between lo hi z (and-left _ _ (and-left _ _ (and-left _ _ h))) (widened hi (and-right _ _ (and-right _ _ (and-left _ _ h)))) inside
first-spelled (t.Enum size) z h small inside = between (pos 0) (pos size -ℤ pos 1) z refl (last-literal size small) inside

pub stored-spelled : (xs : List NetStored) → list_all stored_stands xs ≡ true → are_small xs ≡ true → AllByRecursion FaceSpelled (map stored_face xs)
stored-spelled [] h small = tt
stored-spelled (v ∷ xs) h small =
    let stands : stored_stands v ≡ true = and-left _ _ h in
    let is : is_type v.type_of ≡ true = and-left _ _ (and-left _ _ stands) in (
      record { type = type-spelled v.type_of is (and-left _ _ small); first = first-spelled v.type_of v.first is (and-left _ _ small) (and-right _ _ stands) },
      stored-spelled xs (and-right _ _ h) (and-right _ _ small),
    )
