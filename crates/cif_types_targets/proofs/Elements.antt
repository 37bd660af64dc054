-- Elements of lists by their places, and the order of the places.
use Rattle.std.proofs.Common.{◌≡◌, ℕ, zero, suc, ◌<◌, inl, inr, List, [], ◌∷◌, refl, sym, ap, subst, Some, arith}
use Rattle.std.specs.Prelude.{slice_get}
use Rattle.cif_system.specs.Words.{Member, AreDistinct, Before}
use Rattle.cif_system.proofs.Lists.{some-same, none-some}
use Rattle.cif_system.proofs.Picks.{at-member}
use Rattle.cif_source.proofs.Elements.{member-at}

-- what stands at two places, the first before the second
pub record AtPlaces {A : Type 0} (x y : A) (xs : List A) : Type 0 where
  pub first : ℕ
  pub second : ℕ
  pub less : first < second
  pub first_is : slice_get xs first ≡ Some x
  pub second_is : slice_get xs second ≡ Some y

pub places-before : {A : Type 0} (x y : A) (xs : List A) → Before x y xs → AtPlaces x y xs
places-before x y [] h = absurd h
places-before x y (z ∷ xs) h =
    elim h [
      | inl w ↦ let later = member-at y xs w.1 in record { first = 0; second = suc later.0; less = omega arith; first_is = ap Some (sym w.0); second_is = later.1 }
      | inr w ↦
          let rest = places-before x y xs w in
          record { first = suc rest.first; second = suc rest.second; less = omega (arith, rest.less); first_is = rest.first_is; second_is = rest.second_is }
    ]

pub before-places : {A : Type 0} (x y : A) (xs : List A) (i j : ℕ) → slice_get xs i ≡ Some x → slice_get xs j ≡ Some y → i < j → Before x y xs
before-places x y [] i j f g l = absurd (none-some x f)
before-places x y (z ∷ xs) i zero f g l = absurd (omega (arith, l))
before-places x y (z ∷ xs) zero (suc j) f g l = inl (sym (some-same z x f), at-member xs j y g)
before-places x y (z ∷ xs) (suc i) (suc j) f g l = inr (before-places x y xs i j f g (omega (arith, l)))

-- an element of a list without repetitions stands at one place
pub place-single : {A : Type 0} (x : A) (xs : List A) (i j : ℕ) → AreDistinct xs → slice_get xs i ≡ Some x → slice_get xs j ≡ Some x → i ≡ j
place-single x [] i j d f g = absurd (none-some x f)
place-single x (y ∷ xs) zero zero d f g = refl
place-single x (y ∷ xs) zero (suc j) d f g = absurd (d.0 (subst (λ z. Member z xs) (sym (some-same y x f)) (at-member xs j x g)))
place-single x (y ∷ xs) (suc i) zero d f g = absurd (d.0 (subst (λ z. Member z xs) (sym (some-same y x g)) (at-member xs i x f)))
place-single x (y ∷ xs) (suc i) (suc j) d f g = ap suc (place-single x xs i j d.1 f g)
