-- Graphs of needs as lists of rows.
use Rattle.std.proofs.Common.{◌≡◌, ℕ, zero, suc, ◌<◌, ◌⊎◌, inl, inr, List, [], ◌∷◌, ◌++◌, length, refl, sym, ap, subst, ◌∙◌, arith, Option, Some, None}
use Rattle.std.specs.Prelude.{slice_get, unwrap_or}
use Rattle.std.specs.Option.{option_to_list}
use Rattle.std.proofs.lemmas.Option.{unwrap_or-slice_get}
use Rattle.cif_system.specs.Words.{Member}
use Rattle.cif_system.proofs.Lists.{some-same, none-some, slice_get-below}
use Rattle.cif_order.specs.Graph.{needs_of, Needs}

pub member-at : {A : Type 0} (xs : List A) (x : A) → Member x xs → (k : ℕ) × (slice_get xs k ≡ Some x)
member-at [] x m = absurd m
member-at (y ∷ xs) x m = elim m [ inl e ↦ (zero, ap Some (sym e)) | inr g ↦ let w = member-at xs x g in (suc w.0, w.1) ]

pub at-below : {A : Type 0} (xs : List A) (k : ℕ) → k < length xs → (x : A) × (slice_get xs k ≡ Some x)
at-below [] k l = absurd (omega arith)
at-below (x ∷ xs) zero l = (x, refl)
at-below (x ∷ xs) (suc k) l = let less : k < length xs = omega arith in at-below xs k less

pub in-option : (o : Option ℕ) (x : ℕ) → Member x (option_to_list o) → o ≡ Some x
in-option None x m = absurd m
in-option (Some y) x m = elim m [ inl e ↦ ap Some (sym e) | inr g ↦ absurd g ]

pub option-in : (o : Option ℕ) (x : ℕ) → o ≡ Some x → Member x (option_to_list o)
option-in None x h = absurd (none-some x h)
option-in (Some y) x h = inl (sym (some-same y x h))

row-is : (needs : List (List ℕ)) (k : ℕ) → needs_of needs k ≡ unwrap_or (slice_get needs k) []
row-is needs k = sym (unwrap_or-slice_get needs k [])

-- the row of a node that needs something
pub needs-row : (needs : List (List ℕ)) (k j : ℕ) → Needs needs k j → (row : List ℕ) × (slice_get needs k ≡ Some row) × Member j row
needs-row needs k j m = go (slice_get needs k) (subst (λ (l : List ℕ). Member j l) (row-is needs k) m)
  where
    go : (o : Option (List ℕ)) → Member j (unwrap_or o []) → (row : List ℕ) × (o ≡ Some row) × Member j row
    go None g = absurd g
    go (Some row) g = (row, refl, g)

pub row-needs : (needs : List (List ℕ)) (k j : ℕ) (row : List ℕ) → slice_get needs k ≡ Some row → Member j row → Needs needs k j
row-needs needs k j row h m = subst (λ (l : List ℕ). Member j l) (sym (row-is needs k ∙ ap (λ o. unwrap_or o []) h)) m
