-- Where an element of a list made from lists comes from, and which of these lists have no element twice.
use Rattle.std.proofs.Common.{◌≡◌, Bool, true, false, cond, ◌⊎◌, inl, inr, List, [], ◌∷◌, ◌++◌, map, filter, refl, sym, subst}
use Rattle.std.specs.Prelude.{flat_map}
use Rattle.cif_system.specs.Words.{AreDistinct, Member}

-- where an element of a list made from lists comes from
pub member-append : {A : Type 0} → (x : A) → (xs ys : List A) → Member x (xs ++ ys) → Member x xs ⊎ Member x ys
member-append x [] ys h = inr h
member-append x (y ∷ xs) ys h = elim h [ inl w ↦ inl (inl w) | inr w ↦ elim (member-append x xs ys w) [ inl v ↦ inl (inr v) | inr v ↦ inr v ] ]

pub member-map : {A B : Type 0} → (f : A → B) → (y : B) → (xs : List A) → Member y (map f xs) → (x : A) × Member x xs × (y ≡ f x)
member-map f y [] h = absurd h
member-map f y (x ∷ xs) h = elim h [ inl w ↦ (x, inl refl, w) | inr w ↦ let r = member-map f y xs w in (r.0, inr r.1, r.2) ]

pub member-flat_map : {A B : Type 0} → (f : A → List B) → (y : B) → (xs : List A) → Member y (flat_map f xs) → (x : A) × Member x xs × Member y (f x)
member-flat_map f y [] h = absurd h
member-flat_map f y (x ∷ xs) h =
    elim (member-append y (f x) (flat_map f xs) h) [ inl w ↦ (x, inl refl, w) | inr w ↦ let r = member-flat_map f y xs w in (r.0, inr r.1, r.2) ]

pub member-filter : {A : Type 0} → (p : A → Bool) → (x : A) → (xs : List A) → Member x (filter p xs) → Member x xs
member-filter p x [] h = h
member-filter p x (y ∷ xs) h =
    (elim (p y) as (λ b. Member x (cond b (y ∷ filter p xs) (filter p xs)) → Member x (y ∷ xs)) [
      | true ↦ λ g. elim g [ inl w ↦ inl w | inr w ↦ inr (member-filter p x xs w) ]
      | false ↦ λ g. inr (member-filter p x xs g)
    ]) h

-- lists made from lists of which each element stands once
pub append-distinct : {A : Type 0} → (xs ys : List A) → AreDistinct xs → AreDistinct ys → ((x : A) → Member x xs → Member x ys → ⊥) → AreDistinct (xs ++ ys)
append-distinct [] ys h g apart = g
append-distinct (x ∷ xs) ys h g apart = (
  λ w. elim (member-append x xs ys w) [ inl v ↦ h.0 v | inr v ↦ apart x (inl refl) v ],
  append-distinct xs ys h.1 g (λ z v w. apart z (inr v) w),
)

pub map-distinct : {A B : Type 0} → (f : A → B) → ((x y : A) → f x ≡ f y → x ≡ y) → (xs : List A) → AreDistinct xs → AreDistinct (map f xs)
map-distinct f same [] h = tt
map-distinct f same (x ∷ xs) h = (
  λ w. let r = member-map f (f x) xs w in h.0 (subst (λ z. Member z xs) (sym (same x r.0 r.2)) r.1),
  map-distinct f same xs h.1,
)

pub filter-distinct : {A : Type 0} → (p : A → Bool) → (xs : List A) → AreDistinct xs → AreDistinct (filter p xs)
filter-distinct p [] h = tt
filter-distinct p (x ∷ xs) h =
    elim (p x) as (λ b. AreDistinct (cond b (x ∷ filter p xs) (filter p xs))) [
      | true ↦ (λ w. h.0 (member-filter p x xs w), filter-distinct p xs h.1)
      | false ↦ filter-distinct p xs h.1
    ]

-- each part is distinct, and two parts share nothing
pub flat_map-distinct : {A B : Type 0} → (f : A → List B) → (xs : List A) → AreDistinct xs → ((x : A) → Member x xs → AreDistinct (f x))
    → ((x y : A) (z : B) → Member x xs → Member y xs → Member z (f x) → Member z (f y) → x ≡ y) → AreDistinct (flat_map f xs)
flat_map-distinct f [] h each apart = tt
flat_map-distinct f (x ∷ xs) h each apart =
    append-distinct (f x) (flat_map f xs) (each x (inl refl)) (flat_map-distinct f xs h.1 (λ y v. each y (inr v)) (λ y z w u v. apart y z w (inr u) (inr v)))
    (λ z v w. let r = member-flat_map f z xs w in h.0 (subst (λ y. Member y xs) (sym (apart x r.0 z (inl refl) (inr r.1) v r.2)) r.1))
