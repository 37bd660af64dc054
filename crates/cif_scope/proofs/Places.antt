-- Lists beside each other, and lists that stand in longer ones.
use Rattle.std.proofs.Common.{◌≡◌, ℕ, zero, suc, ◌+◌, List, [], ◌∷◌, ◌++◌, length, drop, drop-cons, get_or, add-one, ◌<◌, Some, refl, sym, ap, ◌∙◌, subst, arith}
use Rattle.std.specs.Prelude.{slice_get}
use Rattle.cif_system.proofs.Lists.{some-same, none-some}
use Rattle.cif_scope.specs.Tables.{Beside}

pub drop-item : {A : Type 0} (xs : List A) (i : ℕ) (x : A) → i < length xs → x ≡ get_or xs i x → drop i xs ≡ x ∷ drop (i + 1) xs
drop-item xs i x l e = drop-cons xs i x l ∙ ap (λ y. y ∷ drop (suc i) xs) (sym e) ∙ ap (λ n. x ∷ drop n xs) (sym (add-one i))

module _ {A B : Type 0} (R : A → B → Type 0) where
  pub beside-append : (xs zs : List A) (ys ws : List B) → Beside R xs ys → Beside R zs ws → Beside R (xs ++ zs) (ys ++ ws)
  beside-append [] zs [] ws h g = g
  beside-append [] zs (y ∷ ys) ws h g = absurd h
  beside-append (x ∷ xs) zs [] ws h g = absurd h
  beside-append (x ∷ xs) zs (y ∷ ys) ws h g = (h.0, beside-append xs zs ys ws h.1 g)

  pub beside-length : (xs : List A) (ys : List B) → Beside R xs ys → length ys ≡ length xs
  beside-length [] [] h = refl
  beside-length [] (y ∷ ys) h = absurd h
  beside-length (x ∷ xs) [] h = absurd h
  beside-length (x ∷ xs) (y ∷ ys) h = let rest : length ys ≡ length xs = beside-length xs ys h.1 in omega arith

  -- what stands beside an element
  pub beside-at : (xs : List A) (ys : List B) (k : ℕ) (x : A) → Beside R xs ys → slice_get xs k ≡ Some x → (y : B) × (slice_get ys k ≡ Some y) × R x y
  beside-at [] ys k x h e = absurd (none-some x e)
  beside-at (z ∷ xs) [] k x h e = absurd h
  beside-at (z ∷ xs) (y ∷ ys) zero x h e = (y, refl, subst (λ u. R u y) (some-same z x e) h.0)
  beside-at (z ∷ xs) (y ∷ ys) (suc k) x h e = beside-at xs ys k x h.1 e

  pub beside-back : (xs : List A) (ys : List B) (k : ℕ) (y : B) → Beside R xs ys → slice_get ys k ≡ Some y → (x : A) × (slice_get xs k ≡ Some x) × R x y
  beside-back xs [] k y h e = absurd (none-some y e)
  beside-back [] (w ∷ ys) k y h e = absurd h
  beside-back (x ∷ xs) (w ∷ ys) zero y h e = (x, refl, subst (λ u. R x u) (some-same w y e) h.0)
  beside-back (x ∷ xs) (w ∷ ys) (suc k) y h e = beside-back xs ys k y h.1 e

module _ {A : Type 0} (all : List A) where
  -- the elements stand in the list from place k on
  abbrev pub Sits : ℕ → List A → Type 0
  Sits k xs = (j : ℕ) (x : A) → slice_get xs j ≡ Some x → slice_get all (k + j) ≡ Some x

  get-left : (xs ys : List A) (j : ℕ) (x : A) → slice_get xs j ≡ Some x → slice_get (xs ++ ys) j ≡ Some x
  get-left [] ys j x h = absurd (none-some x h)
  get-left (z ∷ xs) ys zero x h = h
  get-left (z ∷ xs) ys (suc j) x h = get-left xs ys j x h

  get-right : (xs ys : List A) (j : ℕ) (x : A) → slice_get ys j ≡ Some x → slice_get (xs ++ ys) (length xs + j) ≡ Some x
  get-right [] ys j x h = let e : j ≡ 0 + j = omega arith in subst (λ k. slice_get ys k ≡ Some x) e h
  get-right (z ∷ xs) ys j x h = let e : suc (length xs + j) ≡ suc (length xs) + j = omega arith in subst (λ k. slice_get (z ∷ (xs ++ ys)) k ≡ Some x) e (get-right xs ys j x h)

  pub sits-left : (k : ℕ) (xs ys : List A) → Sits k (xs ++ ys) → Sits k xs
  sits-left k xs ys s j x h = s j x (get-left xs ys j x h)

  pub sits-right : (k m : ℕ) (xs ys : List A) → length xs ≡ m → Sits k (xs ++ ys) → Sits (k + m) ys
  sits-right k m xs ys e s j x h = let f : k + (length xs + j) ≡ (k + m) + j = omega arith in subst (λ i. slice_get all i ≡ Some x) f (s (length xs + j) x (get-right xs ys j x h))

  pub sits-head : (k : ℕ) (x : A) (xs : List A) → Sits k (x ∷ xs) → slice_get all k ≡ Some x
  sits-head k x xs s = let e : k + 0 ≡ k = omega arith in subst (λ i. slice_get all i ≡ Some x) e (s zero x refl)

  pub sits-tail : (k : ℕ) (x : A) (xs : List A) → Sits k (x ∷ xs) → Sits (k + 1) xs
  sits-tail k x xs s j y h = let e : k + suc j ≡ (k + 1) + j = omega arith in subst (λ i. slice_get all i ≡ Some y) e (s (suc j) y h)

  pub sits-whole : Sits 0 all
  sits-whole j x h = let e : j ≡ 0 + j = omega arith in subst (λ i. slice_get all i ≡ Some x) e h
