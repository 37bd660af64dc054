-- Lists by places: the first elements of a list, and lists that grow by one element at a time.
use Rattle.std.proofs.Common.{◌≡◌, ℕ, zero, suc, ◌+◌, ◌<◌, ◌≤◌, List, [], ◌∷◌, ◌++◌, length, length-append, take, ◌⊎◌, inl, inr, Some, refl, sym, ap, ◌∙◌, arith}
use Rattle.std.specs.Prelude.{slice_get}
use Rattle.std.proofs.lemmas.Bool.{cases_lt}
use Rattle.std.proofs.lemmas.Option.{slice_get_cases}
use Rattle.cif_system.proofs.Lists.{some-same, none-some}

pub take-none : {A : Type 0} (xs : List A) → take 0 xs ≡ []
take-none [] = refl
take-none (x ∷ xs) = refl

pub take-next : {A : Type 0} (xs : List A) (k : ℕ) (x : A) → slice_get xs k ≡ Some x → take (suc k) xs ≡ take k xs ++ x ∷ []
take-next [] k x h = absurd (none-some x h)
take-next (y ∷ xs) zero x h = ap (λ z. z ∷ []) (some-same y x h)
take-next (y ∷ xs) (suc k) x h = ap (λ l. y ∷ l) (take-next xs k x h)

pub get-there : {A : Type 0} (xs : List A) (k : ℕ) → k < length xs → (x : A) × (slice_get xs k ≡ Some x)
get-there xs k l = elim (slice_get_cases xs k).1 [ inl h ↦ (h.0, h.2) | inr h ↦ absurd (omega (arith, h.0)) ]

get-front : {A : Type 0} (xs ys : List A) (j : ℕ) → j < length xs → slice_get (xs ++ ys) j ≡ slice_get xs j
get-front [] ys j h = absurd (omega (arith, h))
get-front (x ∷ xs) ys zero h = refl
get-front (x ∷ xs) ys (suc j) h = get-front xs ys j (omega (arith, h))

get-behind : {A : Type 0} (xs : List A) (x : A) → slice_get (xs ++ x ∷ []) (length xs) ≡ Some x
get-behind [] x = refl
get-behind (y ∷ xs) x = get-behind xs x

-- a list that has one more element after each step
module _ {A : Type 0} (g : ℕ → List A) (f : ℕ → A) (none : g zero ≡ []) (more : (n : ℕ) → g (suc n) ≡ g n ++ f n ∷ []) where
  grown-length : (n : ℕ) → length (g n) ≡ n
  grown-length zero = ap length none
  grown-length (suc n) = ap length (more n) ∙ length-append (g n) (f n ∷ []) ∙ (let e : length (g n) + 1 ≡ suc n = omega (arith, grown-length n) in e)

  pub grown-at : (n j : ℕ) → j < n → slice_get (g n) j ≡ Some (f j)
  grown-at zero j h = absurd (omega (arith, h))
  grown-at (suc n) j h = ap (λ xs. slice_get xs j) (more n) ∙ go (cases_lt j n) (grown-at n j)
    where
      go : (j < n) ⊎ (n ≤ j) → (j < n → slice_get (g n) j ≡ Some (f j)) → slice_get (g n ++ f n ∷ []) j ≡ Some (f j)
      go (inl less) rest = get-front (g n) (f n ∷ []) j (omega (arith, less, grown-length n)) ∙ rest less
      go (inr past) rest =
          let last : j ≡ n = omega (arith, past, h) in
          ap (slice_get (g n ++ f n ∷ [])) (last ∙ sym (grown-length n)) ∙ get-behind (g n) (f n) ∙ ap (λ i. Some (f i)) (sym last)
