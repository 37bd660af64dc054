-- Elements of lists, by their places and by what is so of them.
use Rattle.std.proofs.Common.{◌≡◌, ℕ, zero, suc, ◌<◌, inl, inr, List, [], ◌∷◌, length, refl, sym, ap, subst, Some, arith}
use Rattle.std.specs.Prelude.{slice_get, slice_index_or}
use Rattle.std.specs.List.{Any, Contains}
use Rattle.cif_system.specs.Words.{Member}

pub member-at : {A : Type 0} (x : A) (xs : List A) → Member x xs → (k : ℕ) × (slice_get xs k ≡ Some x)
member-at x [] m = absurd m
member-at x (y ∷ xs) m = elim m [
  | inl w ↦ (0, ap Some (sym w))
  | inr w ↦ let rest = member-at x xs w in (suc rest.0, rest.1)
]

pub from-any : {A : Type 0} (P : A → Type 0) (xs : List A) → Any P xs → (x : A) × Member x xs × P x
from-any P xs a = (a.1, at xs a.0 a.1 a.2 a.3, a.4)
  where
    at : {A : Type 0} (xs : List A) (k : ℕ) (x : A) → k < length xs → slice_index_or xs k x ≡ x → Member x xs
    at [] k x lt is = absurd (omega (arith, lt))
    at (y ∷ ys) zero x lt is = inl (sym is)
    at (y ∷ ys) (suc k) x lt is = inr (at ys k x (omega (arith, lt)) is)

pub to-any : {A : Type 0} (P : A → Type 0) (x : A) (xs : List A) → Member x xs → P x → Any P xs
to-any P x [] m p = absurd m
to-any P x (y ∷ ys) m p =
    elim m [
      | inl w ↦ (0, x, omega arith, sym w, p)
      | inr w ↦ let rest = to-any P x ys w p in (suc rest.0, rest.1, omega (arith, rest.2), rest.3, rest.4)
    ]

pub from-contains : {A : Type 0} (xs : List A) (x : A) → Contains xs x → Member x xs
from-contains xs x h = let w = from-any (λ y. y ≡ x) xs (h.0, x, h.1, h.2, refl) in subst (λ y. Member y xs) w.2 w.1

pub to-contains : {A : Type 0} (xs : List A) (x : A) → Member x xs → Contains xs x
to-contains [] x m = absurd m
to-contains (y ∷ xs) x m = elim m [
  | inl w ↦ (0, omega arith, sym w)
  | inr w ↦ let rest = to-contains xs x w in (suc rest.0, omega (arith, rest.1), rest.2)
]
