-- A table that is filled along an order has what is told with definitions unfolded; and what is told of unfolded definitions,
-- seen by a map.
use Rattle.std.proofs.Common.{◌≡◌, ◌≢◌, ℕ, zero, suc, ◌+◌, ◌<◌, ◌≤◌, List, [], ◌∷◌, ◌++◌, map, length, take, replicate, Option, Some, None, ◌⊎◌, inl, inr, refl, sym, ◌∙◌, ap, subst, slice_get, get_or, arith}
use Rattle.std.specs.Prelude.{slice_set}
use Rattle.std.proofs.lemmas.List.{length-set}
use Rattle.cif_system.specs.Words.{Member, AreDistinct, Before}
use Rattle.cif_system.proofs.Lists.{map-length}
use Rattle.cif_system.proofs.Distinct.{member-append}
use Rattle.cif_net_model.specs.Unfolding.{at_or, unfolded}
use Rattle.cif_net_model.proofs.UnfoldLaws.{unfolded-at, unfolded-stable}
use Rattle.cif_alg_order.specs.Filled.{put, filled_from, filled}

-- ---- lists

some-in : {A : Type 0} (xs : List A) (k : ℕ) → k < length xs → (x : A) × (slice_get xs k ≡ Some x)
some-in [] k h = absurd (omega arith)
some-in (x ∷ xs) zero h = (x, refl)
some-in (x ∷ xs) (suc k) h = some-in xs k (omega arith)

pub number-in : (xs : List ℕ) (k : ℕ) → k < length xs → slice_get xs k ≡ Some (get_or xs k 0)
number-in [] k h = absurd (omega arith)
number-in (x ∷ xs) zero h = refl
number-in (x ∷ xs) (suc k) h = number-in xs k (omega arith)

-- what stands there is seen there
pub map-some : {A B : Type 0} (f : A → B) (xs : List A) (k : ℕ) (x : A) → slice_get xs k ≡ Some x → slice_get (map f xs) k ≡ Some (f x)
map-some f [] k x h = absurd cc
map-some f (y ∷ xs) zero x h = let e : y ≡ x = cc in ap (λ z. Some (f z)) e
map-some f (y ∷ xs) (suc k) x h = map-some f xs k x h

pub map-none : {A B : Type 0} (f : A → B) (xs : List A) (k : ℕ) → slice_get xs k ≡ None → slice_get (map f xs) k ≡ None
map-none f [] k h = refl
map-none f (y ∷ xs) zero h = absurd cc
map-none f (y ∷ xs) (suc k) h = map-none f xs k h

-- tables that have the same at each place
pub same-tables : {A : Type 0} (d : A) (xs ys : List A) → length xs ≡ length ys → ((k : ℕ) → k < length xs → at_or d xs k ≡ at_or d ys k) → xs ≡ ys
same-tables d [] [] l h = refl
same-tables d [] (y ∷ ys) l h = absurd (omega arith)
same-tables d (x ∷ xs) [] l h = absurd (omega arith)
same-tables d (x ∷ xs) (y ∷ ys) l h =
    let e : x ≡ y = h 0 (omega arith) in
    let r : xs ≡ ys = same-tables d xs ys (omega arith) (λ k m. h (suc k) (omega arith)) in
    λ i. e i ∷ r i

set-same : {A : Type 0} (d : A) (xs : List A) (k : ℕ) (x : A) → k < length xs → at_or d (slice_set xs k x) k ≡ x
set-same d [] k x h = absurd (omega arith)
set-same d (y ∷ xs) zero x h = refl
set-same d (y ∷ xs) (suc k) x h = set-same d xs k x (omega arith)

set-other : {A : Type 0} (d : A) (xs : List A) (k j : ℕ) (x : A) → j ≢ k → at_or d (slice_set xs k x) j ≡ at_or d xs j
set-other d [] k j x h = refl
set-other d (y ∷ xs) zero zero x h = absurd (h refl)
set-other d (y ∷ xs) zero (suc j) x h = refl
set-other d (y ∷ xs) (suc k) zero x h = refl
set-other d (y ∷ xs) (suc k) (suc j) x h = set-other d xs k j x (λ e. h (ap suc e))

same-or-other : (x y : ℕ) → (x ≡ y) ⊎ (x ≢ y)
same-or-other zero zero = inl refl
same-or-other zero (suc y) = inr (λ e. cc)
same-or-other (suc x) zero = inr (λ e. cc)
same-or-other (suc x) (suc y) = elim (same-or-other x y) [ inl e ↦ inl (ap suc e) | inr n ↦ inr (λ e. n cc) ]

take-one : (xs : List ℕ) (i k : ℕ) → slice_get xs i ≡ Some k → take (suc i) xs ≡ take i xs ++ k ∷ []
take-one [] i k h = absurd cc
take-one (x ∷ xs) zero k h = let e : x ≡ k = cc in ap (λ y. y ∷ []) e
take-one (x ∷ xs) (suc i) k h = ap (λ ys. x ∷ ys) (take-one xs i k h)

take-whole : (xs : List ℕ) → take (length xs) xs ≡ xs
take-whole [] = refl
take-whole (x ∷ xs) = ap (λ ys. x ∷ ys) (take-whole xs)

get-member : (xs : List ℕ) (i k : ℕ) → slice_get xs i ≡ Some k → Member k xs
get-member [] i k h = absurd cc
get-member (x ∷ xs) zero k h = inl cc
get-member (x ∷ xs) (suc i) k h = inr (get-member xs i k h)

before-second : (x y : ℕ) (xs : List ℕ) → Before x y xs → Member y xs
before-second x y [] h = h
before-second x y (z ∷ xs) h = elim h [ inl w ↦ inr w.1 | inr b ↦ inr (before-second x y xs b) ]

-- what stands before the element at i is among the first i
pub before-taken : (j k i : ℕ) (xs : List ℕ) → AreDistinct xs → Before j k xs → slice_get xs i ≡ Some k → Member j (take i xs)
before-taken j k i [] d b h = absurd b
before-taken j k zero (x ∷ xs) d b h =
    let e : x ≡ k = cc in
    absurd (d.0 (subst (λ y. Member y xs) (sym e) (elim b [ inl w ↦ w.1 | inr c ↦ before-second j k xs c ])))
before-taken j k (suc i) (x ∷ xs) d b h = elim b [ inl w ↦ inl w.0 | inr c ↦ inr (before-taken j k i xs d.1 c h) ]

-- ---- filling

module _ {D A : Type 0} (d : A) (f : (ℕ → A) → D → A) (ds : List D) where
  filled-more : (ks : List ℕ) (k : ℕ) (t : List A) → filled_from d f ds (ks ++ k ∷ []) t ≡ put d f ds (filled_from d f ds ks t) k
  filled-more [] k t = refl
  filled-more (j ∷ ks) k t = filled-more ks k (put d f ds t j)

  put-length : (t : List A) (k : ℕ) → length (put d f ds t k) ≡ length t
  put-length t k = by (slice_get ds k)
    where
      by : (o : Option D) → length {A = A} (elim o [ None ↦ t | Some x ↦ slice_set t k (f (at_or d t) x) ]) ≡ length t
      by None = refl
      by (Some x) = length-set t k (f (at_or d t) x)

  from-length : (ks : List ℕ) (t : List A) → length (filled_from d f ds ks t) ≡ length t
  from-length [] t = refl
  from-length (k ∷ ks) t = from-length ks (put d f ds t k) ∙ put-length t k

  start-length : (n : ℕ) → length (replicate n d) ≡ n
  start-length zero = refl
  start-length (suc n) = omega (arith, start-length n)

  pub filled-length : (ks : List ℕ) → length (filled d f ds ks) ≡ length ds
  filled-length ks = from-length ks (replicate (length ds) d) ∙ start-length (length ds)

  -- the loop's step: what was filled up to i, and the definition there
  pub filled-step : (order : List ℕ) (i k : ℕ) → slice_get order i ≡ Some k → put d f ds (filled d f ds (take i order)) k ≡ filled d f ds (take (suc i) order)
  filled-step order i k h =
      sym (ap (filled d f ds) (take-one order i k h) ∙ filled-more (take i order) k (replicate (length ds) d))

  -- what a table becomes
  pub put-some : (t : List A) (k : ℕ) (x : D) → slice_get ds k ≡ Some x → slice_set t k (f (at_or d t) x) ≡ put d f ds t k
  put-some t k x h = sym (ap (λ o. elim o as (λ p. List A) [ None ↦ t | Some y ↦ slice_set t k (f (at_or d t) y) ]) h)

  pub put-none : (t : List A) (k : ℕ) → slice_get ds k ≡ None → t ≡ put d f ds t k
  put-none t k h = sym (ap (λ o. elim o as (λ p. List A) [ None ↦ t | Some y ↦ slice_set t k (f (at_or d t) y) ]) h)

  pub filled-next : (order : List ℕ) (i : ℕ) (t u : List A) → i < length order → t ≡ filled d f ds (take i order) → u ≡ put d f ds t (get_or order i 0) → u ≡ filled d f ds (take (i + 1) order)
  filled-next order i t u l p q =
      let s : slice_get order i ≡ Some (get_or order i 0) = number-in order i l in
      let e : suc i ≡ i + 1 = omega arith in
      q ∙ ap (λ v. put d f ds v (get_or order i 0)) p ∙ filled-step order i (get_or order i 0) s ∙ ap (λ j. filled d f ds (take j order)) e

  unfolded-length : length (unfolded d f ds (length ds)) ≡ length ds
  unfolded-length = by ds
    where
      by : (es : List D) → length (unfolded d f es (length es)) ≡ length es
      by [] = refl
      by (e ∷ es) = map-length (f (at_or d (unfolded d f (e ∷ es) (length es)))) (e ∷ es)

  -- N x k: the definition x names k; what f tells hangs on what is told of the names
  module _ (N : D → ℕ → Type 0) (alike : (g h : ℕ → A) (x : D) → ((k : ℕ) → N x k → g k ≡ h k) → f g x ≡ f h x)
      (rank : ℕ → ℕ) (within : (k : ℕ) → k < length ds → rank k < length ds) (falls : (j k : ℕ) (x : D) → slice_get ds j ≡ Some x → N x k → rank k < rank j) where
    abbrev pub final : ℕ → A
    final = at_or d (unfolded d f ds (length ds))

    get-below : {B : Type 0} (xs : List B) (k : ℕ) (x : B) → slice_get xs k ≡ Some x → k < length xs
    get-below [] k x h = absurd cc
    get-below (y ∷ xs) zero x h = omega arith
    get-below (y ∷ xs) (suc k) x h = omega (arith, get-below xs k x h)

    -- one unfolding more changes nothing
    fixed : (k : ℕ) (x : D) → slice_get ds k ≡ Some x → f final x ≡ final k
    fixed k x h =
        let w : rank k < length ds = within k (get-below ds k x h) in
        sym (unfolded-at d f ds (length ds) k x h) ∙ unfolded-stable d f ds N alike rank falls (suc (length ds)) (length ds) k (omega (arith, w)) w

    module _ (order : List ℕ) (only : (k : ℕ) → Member k order → k < length ds) (once : AreDistinct order) (after : (j k : ℕ) (x : D) → slice_get ds j ≡ Some x → N x k → Before k j order) where
      -- it has the same at what it was filled with
      put-agrees : (t : List A) (i k : ℕ) → slice_get order i ≡ Some k → length t ≡ length ds → ((j : ℕ) → Member j (take i order) → at_or d t j ≡ final j)
          → (j : ℕ) → Member j (take i order) ⊎ (j ≡ k) → at_or d (put d f ds t k) j ≡ final j
      put-agrees t i k h l agrees j m =
          let l' : k < length ds = only k (get-member order i k h) in
          let s = some-in ds k l' in
          ap (λ o. at_or d (elim o [ None ↦ t | Some x ↦ slice_set t k (f (at_or d t) x) ]) j) s.1
          ∙ elim (same-or-other j k) [
            | inl e ↦
                ap (at_or d (slice_set t k (f (at_or d t) s.0))) e
                ∙ set-same d t k (f (at_or d t) s.0) (omega (arith, l', l))
                ∙ alike (at_or d t) final s.0 (λ q nx. agrees q (before-taken q k i order once (after k q s.0 s.1 nx) h))
                ∙ fixed k s.0 s.1
                ∙ ap final (sym e)
            | inr n ↦
                set-other d t k j (f (at_or d t) s.0) n
                ∙ agrees j (elim m [ inl w ↦ w | inr e ↦ absurd (n e) ])
          ]

      pub filled-agrees : (i : ℕ) → i ≤ length order → (j : ℕ) → Member j (take i order) → at_or d (filled d f ds (take i order)) j ≡ final j
      filled-agrees zero l j m = absurd m
      filled-agrees (suc i) l j m =
          let s = some-in order i (omega arith) in
          let m' : Member j (take i order ++ s.0 ∷ []) = subst (Member j) (take-one order i s.0 s.1) m in
          ap (λ t. at_or d t j) (sym (filled-step order i s.0 s.1))
          ∙ put-agrees (filled d f ds (take i order)) i s.0 s.1 (filled-length (take i order)) (filled-agrees i (omega arith)) j
          (elim (member-append j (take i order) (s.0 ∷ []) m') [ inl w ↦ inl w | inr v ↦ elim v [ inl e ↦ inr e | inr u ↦ absurd u ] ])

      pub filled-whole : ((k : ℕ) → k < length ds → Member k order) → filled d f ds order ≡ unfolded d f ds (length ds)
      filled-whole each =
          same-tables d (filled d f ds order) (unfolded d f ds (length ds)) (filled-length order ∙ sym unfolded-length)
          (λ k l.
          let m : Member k (take (length order) order) = subst (Member k) (sym (take-whole order)) (each k (omega (arith, l, filled-length order))) in
          ap (λ ks. at_or d (filled d f ds ks) k) (sym (take-whole order)) ∙ filled-agrees (length order) (omega arith) k m)

-- ---- unfolded definitions, seen by a map

at-map : {A B : Type 0} (h : A → B) (d : A) (xs : List A) (k : ℕ) → h (at_or d xs k) ≡ at_or (h d) (map h xs) k
at-map h d [] k = refl
at-map h d (x ∷ xs) zero = refl
at-map h d (x ∷ xs) (suc k) = at-map h d xs k

map-both : {D A B : Type 0} (h : A → B) (f : D → A) (g : D → B) (ds : List D) → ((x : D) → Member x ds → h (f x) ≡ g x) → map h (map f ds) ≡ map g ds
map-both h f g [] e = refl
map-both h f g (x ∷ ds) e =
    let p : h (f x) ≡ g x = e x (inl refl) in
    let q : map h (map f ds) ≡ map g ds = map-both h f g ds (λ y m. e y (inr m)) in
    λ i. p i ∷ q i

module _ {D A B : Type 0} (h : A → B) (d : A) (f : (ℕ → A) → D → A) (g : (ℕ → B) → D → B) (ds : List D) (seen : (t : ℕ → A) (x : D) → Member x ds → h (f t x) ≡ g (λ k. h (t k)) x) where
  pub unfolded-seen : (m : ℕ) → map h (unfolded d f ds m) ≡ unfolded (h d) g ds m
  unfolded-seen zero = refl
  unfolded-seen (suc m) =
      map-both h (f (at_or d (unfolded d f ds m))) (g (λ k. h (at_or d (unfolded d f ds m) k))) ds (seen (at_or d (unfolded d f ds m)))
      ∙ let same : (λ k. h (at_or d (unfolded d f ds m) k)) ≡ at_or (h d) (unfolded (h d) g ds m) =
      λ i k. (at-map h d (unfolded d f ds m) k ∙ ap (λ xs. at_or (h d) xs k) (unfolded-seen m)) i in
      ap (λ t. map (g t) ds) same
