-- Elements of lists that grow at the end, what stands before what there, and lists of which one element is written.
use Rattle.std.proofs.Common.{◌≡◌, ◌≢◌, ℕ, zero, suc, ◌<◌, ◌≤◌, ◌⊎◌, inl, inr, List, [], ◌∷◌, ◌++◌, length, take, Some, None, refl, sym, ap, subst, arith}
use Rattle.std.specs.Prelude.{slice_get, slice_set}
use Rattle.cif_system.specs.Words.{Member, AreDistinct, Before, Chain, one, more}
use Rattle.cif_system.proofs.Lists.{none-some, some-same}
use Rattle.cif_system.proofs.Distinct.{member-append, append-distinct}

pub same-or-other : (x y : ℕ) → (x ≡ y) ⊎ (x ≢ y)
same-or-other zero zero = inl refl
same-or-other zero (suc y) = inr (λ e. cc)
same-or-other (suc x) zero = inr (λ e. cc)
same-or-other (suc x) (suc y) = elim (same-or-other x y) [ inl e ↦ inl (ap suc e) | inr n ↦ inr (λ e. n cc) ]

-- ---- one more element at the end

pub member-left : {A : Type 0} (x : A) (xs ys : List A) → Member x xs → Member x (xs ++ ys)
member-left x [] ys h = absurd h
member-left x (y ∷ xs) ys h = elim h [ inl e ↦ inl e | inr m ↦ inr (member-left x xs ys m) ]

pub member-last : {A : Type 0} (x : A) (xs : List A) → Member x (xs ++ x ∷ [])
member-last x [] = inl refl
member-last x (y ∷ xs) = inr (member-last x xs)

pub member-push : {A : Type 0} (x y : A) (xs : List A) → Member x (xs ++ y ∷ []) → Member x xs ⊎ (x ≡ y)
member-push x y xs h = elim (member-append x xs (y ∷ []) h) [ inl m ↦ inl m | inr w ↦ elim w [ inl e ↦ inr e | inr u ↦ absurd u ] ]

pub before-left : {A : Type 0} (x y : A) (xs ys : List A) → Before x y xs → Before x y (xs ++ ys)
before-left x y [] ys h = absurd h
before-left x y (z ∷ xs) ys h = elim h [ inl w ↦ inl (w.0, member-left y xs ys w.1) | inr b ↦ inr (before-left x y xs ys b) ]

pub before-last : {A : Type 0} (x y : A) (xs : List A) → Member x xs → Before x y (xs ++ y ∷ [])
before-last x y [] h = absurd h
before-last x y (z ∷ xs) h = elim h [ inl e ↦ inl (e, member-last y xs) | inr m ↦ inr (before-last x y xs m) ]

pub before-push : {A : Type 0} (x y z : A) (xs : List A) → Before x y (xs ++ z ∷ []) → Before x y xs ⊎ (Member x xs × (y ≡ z))
before-push x y z [] h = elim h [ inl w ↦ absurd w.1 | inr b ↦ absurd b ]
before-push x y z (w ∷ xs) h = elim h [
  | inl u ↦ elim (member-push y z xs u.1) [ inl m ↦ inl (inl (u.0, m)) | inr e ↦ inr (inl u.0, e) ]
  | inr b ↦ elim (before-push x y z xs b) [ inl c ↦ inl (inr c) | inr p ↦ inr (inr p.0, p.1) ]
]

pub distinct-push : {A : Type 0} (x : A) (xs : List A) → AreDistinct xs → (Member x xs → ⊥) → AreDistinct (xs ++ x ∷ [])
distinct-push x xs h apart = append-distinct xs (x ∷ []) h (λ m. m, tt) (λ y m w. elim w [ inl e ↦ apart (subst (λ z. Member z xs) e m) | inr u ↦ u ])

pub distinct-front : {A : Type 0} (xs ys : List A) → AreDistinct (xs ++ ys) → AreDistinct xs
distinct-front [] ys h = tt
distinct-front (x ∷ xs) ys h = (λ m. h.0 (member-left x xs ys m), distinct-front xs ys h.1)

pub distinct-apart : {A : Type 0} (x : A) (xs : List A) → AreDistinct (xs ++ x ∷ []) → Member x xs → ⊥
distinct-apart x [] h m = m
distinct-apart x (y ∷ xs) h m = elim m [ inl e ↦ h.0 (subst (λ z. Member z (xs ++ x ∷ [])) e (member-last x xs)) | inr w ↦ distinct-apart x xs h.1 w ]

-- ---- one written element

pub written-same : {A : Type 0} (xs : List A) (k : ℕ) (x : A) → k < length xs → slice_get (slice_set xs k x) k ≡ Some x
written-same [] k x h = absurd (omega arith)
written-same (y ∷ xs) zero x h = refl
written-same (y ∷ xs) (suc k) x h = written-same xs k x (omega arith)

pub written-other : {A : Type 0} (xs : List A) (k j : ℕ) (x : A) → j ≢ k → slice_get (slice_set xs k x) j ≡ slice_get xs j
written-other [] k j x h = refl
written-other (y ∷ xs) zero zero x h = absurd (h refl)
written-other (y ∷ xs) zero (suc j) x h = refl
written-other (y ∷ xs) (suc k) zero x h = refl
written-other (y ∷ xs) (suc k) (suc j) x h = written-other xs k j x (λ e. h (ap suc e))

pub get-within : {A : Type 0} (xs : List A) (k : ℕ) (y : A) → slice_get xs k ≡ Some y → k < length xs
get-within [] k y h = absurd (none-some y h)
get-within (x ∷ xs) zero y h = omega arith
get-within (x ∷ xs) (suc k) y h = omega (arith, get-within xs k y h)

-- what stands there is what was written, or what stood there before
pub written : {A : Type 0} (xs : List A) (k j : ℕ) (x y : A) → slice_get (slice_set xs k x) j ≡ Some y → ((j ≡ k) × (x ≡ y)) ⊎ ((j ≢ k) × (slice_get xs j ≡ Some y))
written [] k j x y h = absurd (none-some y h)
written (z ∷ xs) zero zero x y h = inl (refl, some-same x y h)
written (z ∷ xs) zero (suc j) x y h = inr (λ e. cc, h)
written (z ∷ xs) (suc k) zero x y h = inr (λ e. cc, h)
written (z ∷ xs) (suc k) (suc j) x y h = elim (written xs k j x y h) [ inl w ↦ inl (ap suc w.0, w.1) | inr w ↦ inr (λ e. w.0 cc, w.1) ]

-- an element that differs from what is written over stays
pub kept : {A : Type 0} (xs : List A) (k j : ℕ) (x y : A) → slice_get xs j ≡ Some y → j ≢ k → slice_get (slice_set xs k x) j ≡ Some y
kept xs k j x y h n = subst (λ o. o ≡ Some y) (sym (written-other xs k j x n)) h

-- ---- chains

pub chain-push : {A : Type 0} (R : A → A → Type 0) (x y z : A) → Chain R x y → R y z → Chain R x z
chain-push R x y z (one r) s = more r (one s)
chain-push R x y z (more {y = w} r c) s = more r (chain-push R w y z c s)

pub chain-falls : {A : Type 0} (R : A → A → Type 0) (rank : A → ℕ) → ((x y : A) → R x y → rank y < rank x) → (x y : A) → Chain R x y → rank y < rank x
chain-falls R rank h x y (one r) = h x y r
chain-falls R rank h x z (more {y = y} r c) = omega (arith, h x y r, chain-falls R rank h y z c)

-- ---- the first elements

pub member-take : {A : Type 0} (x : A) (k : ℕ) (xs : List A) → length xs ≤ k → Member x xs → Member x (take k xs)
member-take x k [] h m = absurd m
member-take x zero (y ∷ xs) h m = absurd (omega arith)
member-take x (suc k) (y ∷ xs) h m = elim m [ inl e ↦ inl e | inr w ↦ inr (member-take x k xs (omega arith) w) ]

pub member-take-suc : {A : Type 0} (x y : A) (k : ℕ) (xs : List A) → slice_get xs k ≡ Some y → Member x (take (suc k) xs) → Member x (take k xs) ⊎ (x ≡ y)
member-take-suc x y k [] h m = absurd (none-some y h)
member-take-suc x y zero (z ∷ xs) h m = elim m [ inl e ↦ let s : z ≡ y = some-same z y h in inr cc | inr w ↦ absurd w ]
member-take-suc x y (suc k) (z ∷ xs) h m = elim m [ inl e ↦ inl (inl e) | inr w ↦ elim (member-take-suc x y k xs h w) [ inl v ↦ inl (inr v) | inr e ↦ inr e ] ]

pub member-get : {A : Type 0} (x : A) (k : ℕ) (xs : List A) → slice_get xs k ≡ Some x → Member x xs
member-get x k [] h = absurd (none-some x h)
member-get x zero (y ∷ xs) h = let e : y ≡ x = some-same y x h in inl (sym e)
member-get x (suc k) (y ∷ xs) h = inr (member-get x k xs h)

pub get-past : {A : Type 0} (xs : List A) (k : ℕ) → None ≡ slice_get xs k → length xs ≤ k
get-past [] k h = omega arith
get-past (x ∷ xs) zero h = absurd cc
get-past (x ∷ xs) (suc k) h = omega (arith, get-past xs k h)
