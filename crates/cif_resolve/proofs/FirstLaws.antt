-- The first fault in a list.
use Rattle.std.proofs.Common.{◌≡◌, ℕ, zero, suc, Bool, true, false, inl, inr, ◌⊎◌, List, [], ◌∷◌, refl, sym, ap, ◌∙◌, Option, Some, None}
use Rattle.std.specs.Prelude.{slice_get}
use Rattle.cif_system.proofs.Lists.{some-same, none-some}
use Rattle.cif_scope.specs.declared.error.ScopeErr.{ScopeErr}
use Rattle.cif_scope.specs.declared.error.ScopeErr.TheVariants.{Unknown, WrongKind}
use Rattle.cif_resolve.specs.Tests.{or_later, first_some, fault_of}

pub later-told : {F : Type 0} (o p : Option F) (e : F) → or_later o p ≡ Some e → (o ≡ Some e) ⊎ (p ≡ Some e)
later-told None p e h = inr h
later-told (Some d) p e h = inl h

pub later-none : {F : Type 0} (o p : Option F) → or_later o p ≡ None → (o ≡ None) × (p ≡ None)
later-none None p h = (refl, h)
later-none (Some d) p h = absurd (none-some d (sym h))

module _ {A F : Type 0} (f : A → Option F) where
  -- what is told is so of an element
  pub first-told : (xs : List A) (e : F) → first_some f xs ≡ Some e → (k : ℕ) × (x : A) × (slice_get xs k ≡ Some x) × (f x ≡ Some e)
  first-told [] e h = absurd (none-some e h)
  first-told (x ∷ xs) e h = elim (later-told (f x) (first_some f xs) e h) [
    | inl g ↦ (zero, x, refl, g)
    | inr g ↦ let w = first-told xs e g in (suc w.0, w.1, w.2, w.3)
  ]

  -- where none is told, it is so of none
  pub first-none : (xs : List A) → first_some f xs ≡ None → (k : ℕ) (x : A) → slice_get xs k ≡ Some x → f x ≡ None
  first-none [] h k x g = absurd (none-some x g)
  first-none (y ∷ xs) h zero x g = ap f (sym (some-same y x g)) ∙ (later-none (f y) (first_some f xs) h).0
  first-none (y ∷ xs) h (suc k) x g = first-none xs (later-none (f y) (first_some f xs) h).1 k x g

  pub first-same : (g : A → Option F) → ((x : A) → f x ≡ g x) → (xs : List A) → first_some f xs ≡ first_some g xs
  first-same g h [] = refl
  first-same g h (x ∷ xs) = ap (λ o. or_later o (first_some f xs)) (h x) ∙ ap (or_later (g x)) (first-same g h xs)

-- ---- the fault of a name

pub fault-told : (at : ℕ) (u m : Bool) (e : ScopeErr) → fault_of at u m ≡ Some e → ((Unknown at ≡ e) × (u ≡ true)) ⊎ ((WrongKind at ≡ e) × (m ≡ true))
fault-told at true m e h = inl (some-same (Unknown at) e h, refl)
fault-told at false true e h = inr (some-same (WrongKind at) e h, refl)
fault-told at false false e h = absurd (none-some e h)

pub fault-none : (at : ℕ) (u m : Bool) → fault_of at u m ≡ None → (u ≡ false) × (m ≡ false)
fault-none at true m h = absurd (none-some (Unknown at) (sym h))
fault-none at false true h = absurd (none-some (WrongKind at) (sym h))
fault-none at false false h = (refl, refl)
