-- Items that are copied at some numbers, until no others differ.
use Rattle.std.proofs.Common.{◌≡◌, inl, inr, ℕ, zero, suc, ◌≤◌, List, [], ◌∷◌, drop, length, Option, Some, None, refl, sym, ap, subst, ◌∙◌, arith, length-set}
use Rattle.std.specs.Prelude.{slice_get, slice_set}
use Rattle.std.specs.List.{Contains}
use Rattle.std.proofs.lemmas.Bool.{cases_lt}
use Rattle.std.proofs.lemmas.List.{drop_all}
use Rattle.cif_system.proofs.Lists.{none-some, some-same}
use Rattle.cif_eval.specs.Copies.{with_item}
use Rattle.cif_script.specs.Touches.{SameBut}

not-first : (k : ℕ) (ks : List ℕ) (j : ℕ) → (k ≡ j → ⊥) → Contains (k ∷ ks) j → Contains ks j
not-first k ks j h (zero, l, e) = absurd (h e)
not-first k ks j h (suc n, l, e) = (n, omega (arith, l), e)

set-elsewhere : {A : Type 0} (xs : List A) (i k : ℕ) (y : A) → (i ≡ k → ⊥) → slice_get (slice_set xs i y) k ≡ slice_get xs k
set-elsewhere [] i k y h = refl
set-elsewhere (x ∷ xs) zero zero y h = absurd (h refl)
set-elsewhere (x ∷ xs) zero (suc k) y h = refl
set-elsewhere (x ∷ xs) (suc i) zero y h = refl
set-elsewhere (x ∷ xs) (suc i) (suc k) y h = set-elsewhere xs i k y (λ e. h (ap suc e))

elsewhere : {A : Type 0} (xs : List A) (k j : ℕ) (o : Option A) → (k ≡ j → ⊥) → slice_get (with_item xs k o) j ≡ slice_get xs j
elsewhere xs k j None h = refl
elsewhere xs k j (Some y) h = set-elsewhere xs k j y h

later : {A : Type 0} (x : A) (xs : List A) (k : ℕ) (o : Option A) → slice_get (with_item (x ∷ xs) (suc k) o) (suc k) ≡ slice_get (with_item xs k o) k
later x xs k None = refl
later x xs k (Some y) = refl

here : {A : Type 0} (xs ys : List A) (k : ℕ) → length xs ≡ length ys → slice_get (with_item xs k (slice_get ys k)) k ≡ slice_get ys k
here [] [] k long = refl
here [] (y ∷ ys) k long = absurd (omega (arith, long))
here (x ∷ xs) [] k long = absurd (omega (arith, long))
here (x ∷ xs) (y ∷ ys) zero long = refl
here (x ∷ xs) (y ∷ ys) (suc k) long = later x xs k (slice_get ys k) ∙ here xs ys k (omega (arith, long))

pub length-with : {A : Type 0} (xs : List A) (k : ℕ) (o : Option A) → length (with_item xs k o) ≡ length xs
length-with xs k None = refl
length-with xs k (Some y) = length-set xs k y

pub copied-one : {A : Type 0} (ks : List ℕ) (k : ℕ) (xs ys : List A) → length xs ≡ length ys → SameBut (k ∷ ks) xs ys → SameBut ks (with_item xs k (slice_get ys k)) ys
copied-one ks k xs ys long same j h =
    elim (cases_lt k j) [
      | inl less ↦ other (λ e. absurd (omega (arith, e, less)))
      | inr least ↦
          elim (cases_lt j k) [
            | inl more ↦ other (λ e. absurd (omega (arith, e, more)))
            | inr most ↦
                let is : k ≡ j = omega (arith, least, most) in
                subst (λ i. slice_get (with_item xs k (slice_get ys k)) i ≡ slice_get ys i) is (here xs ys k long)
          ]
    ]
  where
    other : (k ≡ j → ⊥) → slice_get (with_item xs k (slice_get ys k)) j ≡ slice_get ys j
    other n = elsewhere xs k j (slice_get ys k) n ∙ same j (λ c. h (not-first k ks j n c))

same-items : {A : Type 0} (xs ys : List A) → ((k : ℕ) → slice_get xs k ≡ slice_get ys k) → xs ≡ ys
same-items [] [] h = refl
same-items [] (y ∷ ys) h = absurd (none-some y (h 0))
same-items (x ∷ xs) [] h = absurd (none-some x (sym (h 0)))
same-items (x ∷ xs) (y ∷ ys) h = (λ i. some-same x y (h 0) i ∷ same-items xs ys (λ k. h (suc k)) i)

pub all-copied : {A : Type 0} (ks : List ℕ) (n : ℕ) (xs ys : List A) → length ks ≤ n → SameBut (drop n ks) xs ys → xs ≡ ys
all-copied ks n xs ys end same =
    let none : SameBut [] xs ys = subst (λ js. SameBut js xs ys) (drop_all n ks end) same in
    same-items xs ys (λ k. none k (λ c. let l = c.1 in absurd (omega (arith, l))))
