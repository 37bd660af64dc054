-- Lists of reasons by the numbers of elements.
use Rattle.std.proofs.Common.{◌≡◌, ◌<◌, drop, ℕ, zero, suc, ◌+◌, Bool, true, false, cond, List, [], ◌∷◌, ◌++◌, length, map, filter, Some, refl, sym, ap, ◌∙◌, arith}
use Rattle.std.specs.Prelude.{slice_get, slice_index_or, ◌||◌}
use Rattle.std.specs.List.{AllByRecursion, list_any, enumerate_from}
use Rattle.cif_why_model.specs.Reasons.{Reason, reason_if}
use Rattle.cif_why.specs.Lists.{each_from}

-- a test of what elements are mapped to
pub any-map : {A B : Type 0} (f : A → B) (p : B → Bool) (xs : List A) → list_any p (map f xs) ≡ list_any (λ x. p (f x)) xs
any-map f p [] = refl
any-map f p (x ∷ xs) = ap (λ b. p (f x) || b) (any-map f p xs)

pub any-same : {A : Type 0} (p q : A → Bool) (xs : List A) → ((k : ℕ) (x : A) → slice_get xs k ≡ Some x → p x ≡ q x) → list_any p xs ≡ list_any q xs
any-same p q [] h = refl
any-same p q (x ∷ xs) h = ap (λ b. b || list_any p xs) (h 0 x refl) ∙ ap (λ b. q x || b) (any-same p q xs (λ k y g. h (suc k) y g))

pub any-append : {A : Type 0} (p : A → Bool) (xs ys : List A) → list_any p (xs ++ ys) ≡ (list_any p xs || list_any p ys)
any-append p [] ys = refl
any-append p (x ∷ xs) ys = ap (λ b. p x || b) (any-append p xs ys) ∙ go (p x) (list_any p xs) (list_any p ys)
  where
    go : (a b c : Bool) → (a || (b || c)) ≡ ((a || b) || c)
    go true b c = refl
    go false b c = refl

-- elements of one list that pass as those do that they are mapped to
pub each-same : {A B : Type 0} (reason : ℕ → Reason) (p : ℕ → A → Bool) (q : ℕ × B → Bool) (f : A → B) (i : ℕ) (xs : List A)
    → ((k : ℕ) (x : A) → slice_get xs k ≡ Some x → p (i + k) x ≡ q (i + k, f x)) → each_from reason p i xs ≡ map (λ z. reason z.0) (filter q (enumerate_from i (map f xs)))
each-same reason p q f i [] h = refl
each-same reason p q f i (x ∷ xs) h =
    ap (λ b. reason_if b (reason i) ++ each_from reason p (i + 1) xs) (ap (λ k. p k x) (omega arith) ∙ h 0 x refl ∙ ap (λ k. q (k, f x)) (omega arith))
    ∙ ap (λ rs. reason_if (q (i, f x)) (reason i) ++ rs) (each-same reason p q f (i + 1) xs (λ k y g. ap (λ j. p j y) (omega arith) ∙ h (suc k) y g ∙ ap (λ j. q (j, f y)) (omega arith)))
    ∙ go (q (i, f x))
  where
    go : (b : Bool) → reason_if b (reason i) ++ map (λ z. reason z.0) (filter q (enumerate_from (i + 1) (map f xs)))
        ≡ map (λ z. reason z.0) (cond b ((i, f x) ∷ filter q (enumerate_from (i + 1) (map f xs))) (filter q (enumerate_from (i + 1) (map f xs))))
    go true = refl
    go false = refl

-- what holds of all elements from a place on holds of that there
pub head-of : {A B : Type 0} (P : B → Type 0) (f : A → B) (xs : List A) (i : ℕ) (d : A) → i < length xs → AllByRecursion P (map f (drop i xs)) → P (f (slice_index_or xs i d))
head-of P f [] i d h all = absurd (omega (arith, h))
head-of P f (x ∷ xs) zero d h all = all.0
head-of P f (x ∷ xs) (suc i) d h all = head-of P f xs i d (omega (arith, h)) all

pub item-at : {A : Type 0} (xs : List A) (i : ℕ) (x : A) → i < length xs → x ≡ slice_index_or xs i x → slice_get xs i ≡ Some x
item-at [] i x h is = absurd (omega (arith, h))
item-at (y ∷ xs) zero x h is = ap Some (sym is)
item-at (y ∷ xs) (suc i) x h is = item-at xs i x (omega (arith, h)) is
