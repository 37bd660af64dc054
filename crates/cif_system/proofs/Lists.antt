-- Elements of lists, and what `find` finds.
use Rattle.std.proofs.Common.{◌≡◌, ℕ, zero, suc, ◌+◌, ◌<◌, Bool, true, false, cond, inl, inr, List, [], ◌∷◌, length, map, filter, Some, None, find, refl, sym, ap, subst, arith}
use Rattle.std.specs.List.{range_with_len}
use Rattle.std.specs.Prelude.{unwrap_or, slice_get}
use Rattle.cif_system.specs.Words.{Member}

pub some-same : {A : Type 0} → (x y : A) → Some x ≡ Some y → x ≡ y
some-same x y h = ap (λ o. unwrap_or o x) h

pub none-some : {A : Type 0} → (y : A) → None ≡ Some y → ⊥
none-some y h = cc

pub false-true : {b : Bool} → b ≡ false → b ≡ true → ⊥
false-true e h = cc

pub find-passes : {A : Type 0} → (p : A → Bool) → (xs : List A) → (y : A) → find p xs ≡ Some y → p y ≡ true
find-passes p [] y h = absurd (none-some y h)
find-passes p (x ∷ xs) y h =
    (elim (p x) as (λ b. p x ≡ b → cond b (Some x) (find p xs) ≡ Some y → p y ≡ true) [
      | true ↦ λ e g. subst (λ z. p z ≡ true) (some-same x y g) e
      | false ↦ λ e g. find-passes p xs y g
    ]) refl h

pub find-none : {A : Type 0} → (p : A → Bool) → (xs : List A) → (y : A) → find p xs ≡ None → Member y xs → p y ≡ true → ⊥
find-none p [] y h m q = m
find-none p (x ∷ xs) y h m q =
    (elim (p x) as (λ b. p x ≡ b → cond b (Some x) (find p xs) ≡ None → ⊥) [
      | true ↦ λ e g. none-some x (sym g)
      | false ↦ λ e g. elim m [ inl w ↦ false-true e (subst (λ z. p z ≡ true) w q) | inr w ↦ find-none p xs y g w q ]
    ]) refl h

pub filter-member : {A : Type 0} → (p : A → Bool) → (xs : List A) → (y : A) → Member y xs → p y ≡ true → Member y (filter p xs)
filter-member p [] y m q = m
filter-member p (x ∷ xs) y m q =
    (elim (p x) as (λ b. p x ≡ b → Member y (cond b (x ∷ filter p xs) (filter p xs))) [
      | true ↦ λ e. elim m [ inl w ↦ inl w | inr w ↦ inr (filter-member p xs y w q) ]
      | false ↦ λ e. elim m [ inl w ↦ absurd (false-true e (subst (λ z. p z ≡ true) w q)) | inr w ↦ filter-member p xs y w q ]
    ]) refl

pub filter-passes : {A : Type 0} → (p : A → Bool) → (xs : List A) → (y : A) → Member y (filter p xs) → p y ≡ true
filter-passes p [] y m = absurd m
filter-passes p (x ∷ xs) y m =
    (elim (p x) as (λ b. p x ≡ b → Member y (cond b (x ∷ filter p xs) (filter p xs)) → p y ≡ true) [
      | true ↦ λ e. elim [ inl w ↦ subst (λ z. p z ≡ true) (sym w) e | inr w ↦ filter-passes p xs y w ]
      | false ↦ λ e g. filter-passes p xs y g
    ]) refl m

pub filter-within : {A : Type 0} → (p : A → Bool) → (xs : List A) → (y : A) → Member y (filter p xs) → Member y xs
filter-within p [] y m = m
filter-within p (x ∷ xs) y m =
    (elim (p x) as (λ b. Member y (cond b (x ∷ filter p xs) (filter p xs)) → Member y (x ∷ xs)) [
      | true ↦ λ h. elim h [ inl e ↦ inl e | inr q ↦ inr (filter-within p xs y q) ]
      | false ↦ λ h. inr (filter-within p xs y h)
    ]) m

pub range_with_len-member : (k n j : ℕ) → j < n → Member (k + j) (range_with_len k n)
range_with_len-member k zero j h = absurd (omega (arith, h))
range_with_len-member k (suc n) zero h = inl (omega arith)
range_with_len-member k (suc n) (suc j) h = inr (subst (λ i. Member i (range_with_len (k + 1) n)) (omega arith) (range_with_len-member (k + 1) n j (omega (arith, h))))

pub slice_get-below : {A : Type 0} → (xs : List A) → (k : ℕ) → (y : A) → slice_get xs k ≡ Some y → k < length xs
slice_get-below [] k y h = absurd (none-some y h)
slice_get-below (x ∷ xs) zero y h = omega arith
slice_get-below (x ∷ xs) (suc k) y h = omega (arith, slice_get-below xs k y h)

pub map-length : {A B : Type 0} → (f : A → B) → (xs : List A) → length (map f xs) ≡ length xs
map-length f [] = refl
map-length f (x ∷ xs) = omega (arith, map-length f xs)
