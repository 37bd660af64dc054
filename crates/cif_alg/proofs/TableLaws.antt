-- Tables by event: what one change after another makes of each of their entries.
use Rattle.std.proofs.Common.{◌≡◌, ℕ, zero, suc, ◌+◌, ◌≤◌, Bool, true, false, nat_eq, List, [], ◌∷◌, map, replicate, Option, Some, None, slice_get, slice_set, refl, sym, ◌∙◌, ap, if◌then◌else◌, arith}
use Rattle.std.specs.List.{range_with_len}
use Rattle.std.proofs.lemmas.Bool.Decides.{nat_tests}
use Rattle.cif_net_model.proofs.ListingLaws.{same-cons}
use Rattle.cif_alg.specs.Tallies.{changed, each_changed}

-- a table that has f of each event
abbrev pub table : {A : Type 0} → (ℕ → A) → (i n : ℕ) → List A
table f i n = map f (range_with_len i n)

pub same-table : {A : Type 0} (f g : ℕ → A) (i n : ℕ) → ((j : ℕ) → i ≤ j → f j ≡ g j) → table f i n ≡ table g i n
same-table f g i zero h = refl
same-table f g i (suc n) h = same-cons (h i (omega arith)) (same-table f g (i + 1) n (λ j l. h j (omega arith)))

pub filled-table : {A : Type 0} (x : A) (i n : ℕ) → replicate n x ≡ table (λ j. x) i n
filled-table x i zero = refl
filled-table x i (suc n) = ap (λ xs. x ∷ xs) (filled-table x (i + 1) n)

-- ---- one change

abbrev pub changed_at : {A : Type 0} → (A → A) → (k j : ℕ) → A → A
changed_at g k j x = if nat_eq k j then g x else x

changed-later : {A : Type 0} (g : A → A) (k : ℕ) (x : A) (xs : List A) → changed g (suc k) (x ∷ xs) ≡ x ∷ changed g k xs
changed-later {A = A} g k x xs = by (slice_get xs k)
  where
    by : (o : Option A) → elim o [ None ↦ x ∷ xs | Some y ↦ x ∷ slice_set xs k (g y) ] ≡ x ∷ elim o [ None ↦ xs | Some y ↦ slice_set xs k (g y) ]
    by None = refl
    by (Some y) = refl

chosen : {A : Type 0} (b c : Bool) (x y : A) → b ≡ c → (if b then x else y) ≡ (if c then x else y)
chosen b c x y h = ap (λ t. if t then x else y) h

changed-from : {A : Type 0} (g : A → A) (k i n : ℕ) (f : ℕ → A) → changed g k (table f i n) ≡ table (λ j. changed_at g (i + k) j (f j)) i n
changed-from g k i zero f = refl
changed-from g zero i (suc n) f =
    let t : nat_eq (i + 0) i ≡ true = grind (arith, nat_tests) in
    same-cons
    (sym (chosen (nat_eq (i + 0) i) true (g (f i)) (f i) t))
    (same-table f (λ j. changed_at g (i + 0) j (f j)) (i + 1) n
    (λ j l. let u : nat_eq (i + 0) j ≡ false = grind (arith, nat_tests) in sym (chosen (nat_eq (i + 0) j) false (g (f j)) (f j) u)))
changed-from g (suc k) i (suc n) f =
    let t : nat_eq (i + suc k) i ≡ false = grind (arith, nat_tests) in
    let m : i + 1 + k ≡ i + suc k = omega arith in
    changed-later g k (f i) (table f (i + 1) n)
    ∙ same-cons
    (sym (chosen (nat_eq (i + suc k) i) false (g (f i)) (f i) t))
    (changed-from g k (i + 1) n f ∙ ap (λ c. table (λ j. changed_at g c j (f j)) (i + 1) n) m)

changed-table : {A : Type 0} (g : A → A) (k n : ℕ) (f : ℕ → A) → changed g k (table f 0 n) ≡ table (λ j. changed_at g k j (f j)) 0 n
changed-table g k n f = let m : 0 + k ≡ k = omega arith in changed-from g k 0 n f ∙ ap (λ c. table (λ j. changed_at g c j (f j)) 0 n) m

-- ---- one change after another

abbrev pub each_at : {X A : Type 0} → (X → ℕ) → (X → A → A) → List X → (j : ℕ) → A → A
each_at key g [] j t = t
each_at key g (x ∷ xs) j t = each_at key g xs j (changed_at (g x) (key x) j t)

pub each-table : {X A : Type 0} (key : X → ℕ) (g : X → A → A) (xs : List X) (n : ℕ) (f : ℕ → A) → each_changed key g xs (table f 0 n) ≡ table (λ j. each_at key g xs j (f j)) 0 n
each-table key g [] n f = refl
each-table key g (x ∷ xs) n f = ap (each_changed key g xs) (changed-table (g x) (key x) n f) ∙ each-table key g xs n (λ j. changed_at (g x) (key x) j (f j))
