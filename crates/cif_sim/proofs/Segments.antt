-- A list that is made of a list for each number, one after the other: where each begins, and what stands in it.
use Rattle.std.proofs.Common.{◌≡◌, ℕ, zero, suc, ◌+◌, ◌-◌, ◌<◌, ◌≤◌, ◌⊎◌, inl, inr, List, [], ◌∷◌, ◌++◌, length, map, flat_map, drop, Option, Some, None, refl, sym, ap, subst, ◌∙◌, arith, length-append, zero-add, add-zero}
use Rattle.std.specs.Prelude.{option_map, slice_get}
use Rattle.std.specs.List.{range_with_len}
use Rattle.std.proofs.Math.Seq.{drop-nil}
use Rattle.std.proofs.lemmas.List.{drop_at, length-map}
use Rattle.std.proofs.lemmas.Option.{slice_get-map}
use Rattle.cif_system.proofs.Lists.{none-some, some-same}
use Rattle.cif_sim.specs.Starts.{items_below}

-- ---- items of two lists, one after the other

pub drop-drop : {A : Type 0} (j k : ℕ) (xs : List A) → drop (j + k) xs ≡ drop k (drop j xs)
drop-drop zero k xs = ap (λ i. drop i xs) (zero-add k)
drop-drop (suc j) k [] = drop-nil (suc j + k) ∙ sym (drop-nil k)
drop-drop (suc j) k (x ∷ xs) = ap (λ i. drop i (x ∷ xs)) (let e : suc j + k ≡ suc (j + k) = omega arith in e) ∙ drop-drop j k xs

pub get-dropped : {A : Type 0} (k j : ℕ) (xs : List A) → slice_get (drop k xs) j ≡ slice_get xs (k + j)
get-dropped zero j xs = ap (slice_get xs) (sym (zero-add j))
get-dropped (suc k) j [] = refl
get-dropped (suc k) j (x ∷ xs) = get-dropped k j xs ∙ ap (slice_get (x ∷ xs)) (let e : suc (k + j) ≡ suc k + j = omega arith in e)

pub get-front : {A : Type 0} (xs ys : List A) (j : ℕ) → j < length xs → slice_get (xs ++ ys) j ≡ slice_get xs j
get-front [] ys j h = absurd (omega (arith, h))
get-front (x ∷ xs) ys zero h = refl
get-front (x ∷ xs) ys (suc j) h = get-front xs ys j (omega (arith, h))

pub get-either : {A : Type 0} (xs ys : List A) (j : ℕ) (x : A) → slice_get (xs ++ ys) j ≡ Some x → (slice_get xs j ≡ Some x) ⊎ ((i : ℕ) × (slice_get ys i ≡ Some x))
get-either [] ys j x h = inr (j, h)
get-either (y ∷ xs) ys zero x h = inl h
get-either (y ∷ xs) ys (suc j) x h = get-either xs ys j x h

-- ---- segments

module _ {A : Type 0} (f : ℕ → List A) where
  abbrev pub segment : ℕ → List (ℕ × A)
  segment e = map (λ x. (e, x)) (f e)

  -- those of n numbers from k on
  abbrev pub segments : ℕ → ℕ → List (ℕ × A)
  segments k n = flat_map segment (range_with_len k n)

  -- behind the items below e stand the segments from e on
  pub drop-below : (e d : ℕ) → drop (items_below f e) (segments 0 (e + d)) ≡ segments e d
  unfolding items_below
  drop-below zero d = ap (segments 0) (zero-add d)
  drop-below (suc e) d =
      let front : drop (items_below f e) (segments 0 (suc e + d)) ≡ segment e ++ segments (e + 1) d =
      ap (λ n. drop (items_below f e) (segments 0 n)) (let q : suc e + d ≡ e + suc d = omega arith in q) ∙ drop-below e (suc d) in
      drop-drop (items_below f e) (length (f e)) (segments 0 (suc e + d))
      ∙ ap (drop (length (f e))) front
      ∙ drop_at (segment e) (segments (e + 1) d) (length (f e)) (length-map (f e) (λ x. (e, x)))
      ∙ ap (λ k. segments k d) (let q : e + 1 ≡ suc e = omega arith in q)

  -- the items of e
  pub at-segment : (e d j : ℕ) → j < length (f e) → slice_get (segments 0 (e + suc d)) (items_below f e + j) ≡ option_map (λ x. (e, x)) (slice_get (f e) j)
  at-segment e d j h =
      sym (get-dropped (items_below f e) j (segments 0 (e + suc d)))
      ∙ ap (λ xs. slice_get xs j) (drop-below e (suc d))
      ∙ get-front (segment e) (segments (e + 1) d) j (subst (λ n. j < n) (sym (length-map (f e) (λ x. (e, x)))) h)
      ∙ slice_get-map (λ x. (e, x)) (f e) j

  in-segment : (e j : ℕ) (x : ℕ × A) → slice_get (segment e) j ≡ Some x → x.0 ≡ e
  in-segment e j x h = mapped (slice_get (f e) j) (sym (slice_get-map (λ y. (e, y)) (f e) j) ∙ h)
    where
      mapped : (o : Option A) → option_map (λ y. (e, y)) o ≡ Some x → x.0 ≡ e
      mapped None g = absurd (none-some x g)
      mapped (Some y) g = sym (ap (λ z. z.0) (some-same (e, y) x g))

  -- what stands among the items of e is of that number
  pub number-in : (e d k : ℕ) (x : ℕ × A) → items_below f e ≤ k → k < items_below f e + length (f e) → slice_get (segments 0 (e + suc d)) k ≡ Some x → x.0 ≡ e
  number-in e d k x from to at =
      let j : ℕ = k - items_below f e in
      let same : items_below f e + j ≡ k = omega (arith, from) in
      let inside : j < length (f e) = omega (arith, to, same) in
      in-segment e j x (slice_get-map (λ y. (e, y)) (f e) j ∙ sym (at-segment e d j inside) ∙ ap (slice_get (segments 0 (e + suc d))) same ∙ at)

  from-on : (k n j : ℕ) (x : ℕ × A) → slice_get (segments k n) j ≡ Some x → k ≤ x.0
  from-on k zero j x h = absurd (none-some x h)
  from-on k (suc n) j x h =
      elim (get-either (segment k) (segments (k + 1) n) j x h) [
        | inl g ↦ omega (arith, in-segment k j x g)
        | inr g ↦ omega (arith, from-on (k + 1) n g.0 x g.1)
      ]

  -- what stands behind the items of e is of a later number
  pub behind-segment : (e d j : ℕ) (x : ℕ × A) → items_below f (suc e) ≤ j → slice_get (segments 0 (suc e + d)) j ≡ Some x → e < x.0
  behind-segment e d j x h g =
      let k : ℕ = j - items_below f (suc e) in
      let is : items_below f (suc e) + k ≡ j = omega (arith, h) in
      from-on (suc e) d k x
      (ap (λ xs. slice_get xs k) (sym (drop-below (suc e) d)) ∙ get-dropped (items_below f (suc e)) k (segments 0 (suc e + d)) ∙ ap (slice_get (segments 0 (suc e + d))) is ∙ g)

  pub length-segments : (k n : ℕ) → items_below f k + length (segments k n) ≡ items_below f (k + n)
  unfolding items_below
  length-segments k zero = add-zero (items_below f k) ∙ ap (items_below f) (sym (add-zero k))
  length-segments k (suc n) =
      let rest : items_below f (suc k) + length (segments (k + 1) n) ≡ items_below f (k + suc n) =
      ap (λ i. items_below f i + length (segments (k + 1) n)) (let q : suc k ≡ k + 1 = omega arith in q) ∙ length-segments (k + 1) n ∙ ap (items_below f) (omega arith) in
      omega (arith, rest, length-append (segment k) (segments (k + 1) n), length-map {B = ℕ × A} (f k) (λ x. (k, x)))

  -- as far as there are segments
  pub length-all : (n : ℕ) → length (segments 0 n) ≡ items_below f n
  unfolding items_below
  length-all n = sym (zero-add (length (segments 0 n))) ∙ length-segments 0 n ∙ ap (items_below f) (zero-add n)

  pub below-in : (e d : ℕ) → items_below f e ≤ length (segments 0 (e + d))
  below-in e d = omega (arith, length-segments e d, length-all (e + d))
