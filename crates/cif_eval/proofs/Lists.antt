-- Items of lists that are set or copied.
use Rattle.std.proofs.Common.{◌≡◌, ℕ, zero, suc, ◌+◌, List, [], ◌∷◌, length, map, filter_map, Option, Some, None, refl, ap, ◌∙◌, arith, length-set}
use Rattle.std.specs.Prelude.{option_map, slice_get, slice_index_or, slice_set}
use Rattle.std.specs.List.{AllZip, cons_option, range_with_len}
use Rattle.cif_eval.specs.Copies.{copied_item, with_item}

pub zip-length : {A B : Type 0} (P : A → B → Type 0) (xs : List A) (ys : List B) → AllZip P xs ys → length xs ≡ length ys
zip-length P [] [] h = refl
zip-length P [] (y ∷ ys) h = absurd h
zip-length P (x ∷ xs) [] h = absurd h
zip-length P (x ∷ xs) (y ∷ ys) h = ap suc (zip-length P xs ys h.1)

-- two lists that are alike at a place are so after a write to both
pub set-alike : {A : Type 0} (d : A) (xs ys : List A) (j k : ℕ) (z : A) → length xs ≡ length ys → slice_index_or xs k d ≡ slice_index_or ys k d → slice_index_or (slice_set xs j z) k d ≡ slice_index_or (slice_set ys j z) k d
set-alike d [] [] j k z long same = refl
set-alike d [] (y ∷ ys) j k z long same = absurd (omega (arith, long))
set-alike d (x ∷ xs) [] j k z long same = absurd (omega (arith, long))
set-alike d (x ∷ xs) (y ∷ ys) zero zero z long same = refl
set-alike d (x ∷ xs) (y ∷ ys) zero (suc k) z long same = same
set-alike d (x ∷ xs) (y ∷ ys) (suc j) zero z long same = same
set-alike d (x ∷ xs) (y ∷ ys) (suc j) (suc k) z long same = set-alike d xs ys j k z (omega (arith, long)) same

-- what fits at its place may be written there
pub set-fits : {A B : Type 0} (P : A → B → Type 0) (xs : List A) (ys : List B) (k : ℕ) (z : B) → AllZip P xs ys → ((x : A) → slice_get xs k ≡ Some x → P x z) → AllZip P xs (slice_set ys k z)
set-fits P [] [] k z h g = tt
set-fits P [] (y ∷ ys) k z h g = absurd h
set-fits P (x ∷ xs) [] k z h g = absurd h
set-fits P (x ∷ xs) (y ∷ ys) zero z h g = (g x refl, h.1)
set-fits P (x ∷ xs) (y ∷ ys) (suc k) z h g = (h.0, set-fits P xs ys k z h.1 g)

-- ---- copies

-- the copied item is the same
pub item-copied : {A : Type 0} (d : A) (from to : List A) (k : ℕ) → length from ≡ length to → slice_index_or (copied_item from to k) k d ≡ slice_index_or from k d
item-copied d [] [] k long = refl
item-copied d [] (y ∷ ys) k long = absurd (omega (arith, long))
item-copied d (x ∷ xs) [] k long = absurd (omega (arith, long))
item-copied d (x ∷ xs) (y ∷ ys) zero long = refl
item-copied d (x ∷ xs) (y ∷ ys) (suc k) long = go (slice_get xs k) refl ∙ item-copied d xs ys k (omega (arith, long))
  where
    go : (o : Option _) → slice_get xs k ≡ o → slice_index_or (with_item (y ∷ ys) (suc k) o) (suc k) d ≡ slice_index_or (with_item ys k o) k d
    go None h = refl
    go (Some z) h = refl

-- one that is the same stays so
pub item-stays : {A : Type 0} (d : A) (from to : List A) (j k : ℕ) → length from ≡ length to → slice_index_or to k d ≡ slice_index_or from k d → slice_index_or (copied_item from to j) k d ≡ slice_index_or from k d
item-stays d [] [] j k long same = same
item-stays d [] (y ∷ ys) j k long same = absurd (omega (arith, long))
item-stays d (x ∷ xs) [] j k long same = absurd (omega (arith, long))
item-stays d (x ∷ xs) (y ∷ ys) zero zero long same = refl
item-stays d (x ∷ xs) (y ∷ ys) zero (suc k) long same = same
item-stays d (x ∷ xs) (y ∷ ys) (suc j) zero long same = go (slice_get xs j)
  where
    go : (o : Option _) → slice_index_or (with_item (y ∷ ys) (suc j) o) 0 d ≡ x
    go None = same
    go (Some z) = same
item-stays d (x ∷ xs) (y ∷ ys) (suc j) (suc k) long same = go (slice_get xs j) ∙ item-stays d xs ys j k (omega (arith, long)) same
  where
    go : (o : Option _) → slice_index_or (with_item (y ∷ ys) (suc j) o) (suc k) d ≡ slice_index_or (with_item ys j o) k d
    go None = refl
    go (Some z) = refl

pub item-length : {A : Type 0} (from to : List A) (k : ℕ) → length (copied_item from to k) ≡ length to
item-length from to k = go (slice_get from k)
  where
    go : (o : Option _) → length (with_item to k o) ≡ length to
    go None = refl
    go (Some z) = length-set to k z

pub item-fits : {A B : Type 0} (P : A → B → Type 0) (xs : List A) (from to : List B) (k : ℕ) → AllZip P xs from → AllZip P xs to → AllZip P xs (copied_item from to k)
item-fits P [] [] [] k f t = tt
item-fits P [] (y ∷ ys) zs k f t = absurd f
item-fits P [] [] (z ∷ zs) k f t = absurd t
item-fits P (x ∷ xs) [] zs k f t = absurd f
item-fits P (x ∷ xs) (y ∷ ys) [] k f t = absurd t
item-fits P (x ∷ xs) (y ∷ ys) (z ∷ zs) zero f t = (f.0, t.1)
item-fits P (x ∷ xs) (y ∷ ys) (z ∷ zs) (suc k) f t = go (slice_get ys k) (item-fits P xs ys zs k f.1 t.1)
  where
    go : (o : Option _) → AllZip P xs (with_item zs k o) → AllZip P (x ∷ xs) (with_item (z ∷ zs) (suc k) o)
    go None h = (t.0, h)
    go (Some w) h = (t.0, h)

-- ---- numbers

-- what the numbers of all items give is what the items give
pub all-numbers : {A B : Type 0} (f : ℕ → Option B) (g : A → B) (i : ℕ) (xs : List A) → ((k : ℕ) → f (i + k) ≡ option_map g (slice_get xs k)) → filter_map f (range_with_len i (length xs)) ≡ map g xs
all-numbers f g i [] h = refl
all-numbers f g i (x ∷ xs) h =
    let first : f i ≡ Some (g x) = ap f (omega arith) ∙ h 0 in
    ap (λ o. cons_option o (filter_map f (range_with_len (i + 1) (length xs)))) first
    ∙ ap (λ r. g x ∷ r) (all-numbers f g (i + 1) xs (λ k. ap f (omega arith) ∙ h (suc k)))
