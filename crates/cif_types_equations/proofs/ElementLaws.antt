-- The first element of a list that tells something.
use Rattle.std.proofs.Common.{◌≡◌, ◌⊎◌, inl, inr, List, [], ◌∷◌, refl, sym, ap, ◌∙◌, Option, Some, None}
use Rattle.std.specs.Prelude.{filter_map}
use Rattle.std.specs.Option.{option_or}
use Rattle.std.specs.List.{cons_option}
use Rattle.cif_system.specs.Words.{Member}
use Rattle.cif_system.proofs.Lists.{some-same, none-some}
use Rattle.cif_types_equations.specs.Counts.{first_some}

later-told : {F : Type 0} (o p : Option F) (e : F) → option_or o p ≡ Some e → (o ≡ Some e) ⊎ (p ≡ Some e)
later-told None p e h = inr h
later-told (Some d) p e h = inl h

later-none : {F : Type 0} (o p : Option F) → option_or o p ≡ None → (o ≡ None) × (p ≡ None)
later-none None p h = (refl, h)
later-none (Some d) p h = absurd (none-some d (sym h))

pub later-nothing : {F : Type 0} (o : Option F) → option_or o None ≡ o
later-nothing None = refl
later-nothing (Some d) = refl

module _ {A F : Type 0} (f : A → Option F) where
  -- what is told is so of an element
  pub first-told : (xs : List A) (e : F) → first_some f xs ≡ Some e → (x : A) × Member x xs × (f x ≡ Some e)
  first-told [] e h = absurd (none-some e h)
  first-told (x ∷ xs) e h =
      elim (later-told (f x) (first_some f xs) e h) [
        | inl g ↦ (x, inl refl, g)
        | inr g ↦ let w = first-told xs e g in (w.0, inr w.1, w.2)
      ]

  -- where nothing is told, it is so of each element
  pub first-none : (xs : List A) (x : A) → first_some f xs ≡ None → Member x xs → f x ≡ None
  first-none [] x h m = absurd m
  first-none (y ∷ xs) x h m =
      elim m [
        | inl w ↦ ap f w ∙ (later-none (f y) (first_some f xs) h).0
        | inr w ↦ first-none xs x (later-none (f y) (first_some f xs) h).1 w
      ]

module _ {A B : Type 0} (f : A → Option B) where
  pub from-kept : (xs : List A) (y : B) → Member y (filter_map f xs) → (x : A) × Member x xs × (f x ≡ Some y)
  from-kept [] y m = absurd m
  from-kept (x ∷ xs) y m = go (f x) refl m (from-kept xs y)
    where
      go : (o : Option B) → f x ≡ o → Member y (cons_option o (filter_map f xs)) → (Member y (filter_map f xs) → (z : A) × Member z xs × (f z ≡ Some y)) → (z : A) × Member z (x ∷ xs) × (f z ≡ Some y)
      go None e n ih = let w = ih n in (w.0, inr w.1, w.2)
      go (Some v) e n ih =
          elim n [
            | inl w ↦ (x, inl refl, e ∙ ap Some (sym w))
            | inr w ↦ let u = ih w in (u.0, inr u.1, u.2)
          ]

  pub to-kept : (xs : List A) (x : A) (y : B) → Member x xs → f x ≡ Some y → Member y (filter_map f xs)
  to-kept [] x y m h = absurd m
  to-kept (z ∷ xs) x y m h = go (f z) refl m (to-kept xs x y)
    where
      go : (o : Option B) → f z ≡ o → Member x (z ∷ xs) → (Member x xs → f x ≡ Some y → Member y (filter_map f xs)) → Member y (cons_option o (filter_map f xs))
      go None e n ih =
          elim n [
            | inl w ↦ absurd (none-some y (sym (ap f w ∙ e) ∙ h))
            | inr w ↦ ih w h
          ]
      go (Some v) e n ih =
          elim n [
            | inl w ↦ inl (some-same y v (sym h ∙ ap f w ∙ e))
            | inr w ↦ inr (ih w h)
          ]
