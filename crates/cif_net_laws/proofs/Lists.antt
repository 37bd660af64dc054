-- Tests and lists: what passes, and maps that agree.
use Rattle.std.proofs.Common.{◌≡◌, Bool, true, false, ◌&&◌, ◌||◌, List, [], ◌∷◌, ◌++◌, map, inl, inr, refl, ◌∙◌, ap}
use Rattle.std.specs.List.{list_all, list_any}
use Rattle.std.proofs.lemmas.List.Folds.{list_all-append}
use Rattle.cif_system.specs.Words.{Member}
use Rattle.cif_net_model.proofs.Passing.{and-left, and-right}
use Rattle.cif_net_model.proofs.PlainLaws.{never}

pub and-both : (a b : Bool) → a ≡ true → b ≡ true → (a && b) ≡ true
and-both a b h k = ap (λ t. t && b) h ∙ k

pub pass-both : {A : Type 0} (p : A → Bool) (xs ys : List A) → list_all p xs ≡ true → list_all p ys ≡ true → list_all p (xs ++ ys) ≡ true
pass-both p xs ys h k = list_all-append p xs ys ∙ and-both _ _ h k

pub pass-each : {A : Type 0} (p : A → Bool) (xs : List A) → ((x : A) → Member x xs → p x ≡ true) → list_all p xs ≡ true
pass-each p [] h = refl
pass-each p (x ∷ xs) h = and-both _ _ (h x (inl refl)) (pass-each p xs (λ y m. h y (inr m)))

pub some-any : {A : Type 0} (p : A → Bool) (xs : List A) → list_any p xs ≡ true → (x : A) × (p x ≡ true)
some-any p [] h = never h
some-any {A = A} p (x ∷ xs) h =
    elim (p x) as (λ b. p x ≡ b → (b || list_any p xs) ≡ true → (y : A) × (p y ≡ true)) [
      | true ↦ λ e k. (x, e)
      | false ↦ λ e k. some-any p xs k
    ] refl h

pub map-same : {A B : Type 0} (f g : A → B) (xs : List A) → ((x : A) → Member x xs → f x ≡ g x) → map f xs ≡ map g xs
map-same f g [] h = refl
map-same f g (x ∷ xs) h = ap (λ y. y ∷ map f xs) (h x (inl refl)) ∙ ap (λ ys. g x ∷ ys) (map-same f g xs (λ y m. h y (inr m)))

pub map-map : {A B C : Type 0} (f : A → B) (g : B → C) (xs : List A) → map g (map f xs) ≡ map (λ x. g (f x)) xs
map-map f g [] = refl
map-map f g (x ∷ xs) = ap (λ ys. g (f x) ∷ ys) (map-map f g xs)

-- over a list that is mapped, another function
pub map-after : {A B C : Type 0} (h : A → B) (f : B → C) (g : A → C) (xs : List A) → ((x : A) → Member x xs → f (h x) ≡ g x) → map f (map h xs) ≡ map g xs
map-after h f g xs e = map-map h f xs ∙ map-same (λ x. f (h x)) g xs e

pub any-more : {A : Type 0} (p q : A → Bool) → ((x : A) → p x ≡ true → q x ≡ true) → (xs : List A) → list_any p xs ≡ true → list_any q xs ≡ true
any-more p q f [] h = never h
any-more p q f (x ∷ xs) h = by (p x) (f x) (any-more p q f xs) h
  where
    by : (b : Bool) → (b ≡ true → q x ≡ true) → (list_any p xs ≡ true → list_any q xs ≡ true) → (b || list_any p xs) ≡ true → (q x || list_any q xs) ≡ true
    by true g r h = ap (λ c. c || list_any q xs) (g refl)
    by false g r h = true-or (q x) (r h)
      where
        true-or : (c : Bool) → list_any q xs ≡ true → (c || list_any q xs) ≡ true
        true-or true k = refl
        true-or false k = k

pub all-more : {A : Type 0} (p q : A → Bool) → ((x : A) → p x ≡ true → q x ≡ true) → (xs : List A) → list_all p xs ≡ true → list_all q xs ≡ true
all-more p q f [] h = refl
all-more p q f (x ∷ xs) h = and-both _ _ (f x (and-left _ _ h)) (all-more p q f xs (and-right _ _ h))
