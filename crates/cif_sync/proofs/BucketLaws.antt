-- The lists that are filled automaton by automaton have for each event the automata that are noted for it.
use Rattle.std.proofs.Common.{◌≡◌, ℕ, zero, suc, ◌+◌, ◌<◌, ◌≤◌, Bool, true, false, ◌||◌, nat_eq, List, [], ◌∷◌, ◌++◌, length, map, filter, replicate, Some, None, slice_get, slice_set, slice_index_or, refl, sym, ◌∙◌, ap, append_assoc, if◌then◌else◌, arith}
use Rattle.std.specs.List.{list_any, enumerate_from, range_with_len}
use Rattle.std.proofs.lemmas.Bool.Decides.{nat_tests}
use Rattle.cif_sync.specs.Buckets.{ends_in, with_last, noted, all_noted, each_noted}

-- ---- what code does to one list

pub ends-append : (k : ℕ) (front : List ℕ) (x : ℕ) → ends_in k (front ++ x ∷ []) ≡ nat_eq x k
ends-append k [] x = refl
ends-append k (y ∷ []) x = refl
ends-append k (y ∷ z ∷ front) x = ends-append k (z ∷ front) x

pub noted-set : (k e : ℕ) (bs : List (List ℕ)) (b : List ℕ) → slice_get bs e ≡ Some b → slice_set (slice_set bs e []) e (with_last k b) ≡ noted k e bs
noted-set k e [] b h = absurd cc
noted-set k zero (c ∷ bs) b h = let s : c ≡ b = cc in ap (λ x. with_last k x ∷ bs) (sym s)
noted-set k (suc e) (c ∷ bs) b h = ap (λ xs. c ∷ xs) (noted-set k e bs b h)

-- the list is taken out, and put back with the number
pub noted-by : (k e : ℕ) (old mid new : List (List ℕ)) (none was made : List ℕ) → none ≡ [] → slice_get old e ≡ Some was → mid ≡ slice_set old e none → made ≡ with_last k was → new ≡ slice_set mid e made → new ≡ noted k e old
noted-by k e old mid new none was made n w i m h =
    h ∙ ap (λ b. slice_set mid e b) m ∙ ap (λ b. slice_set b e (with_last k was)) (i ∙ ap (λ b. slice_set old e b) n) ∙ noted-set k e old was w

pub noted-past : (k e : ℕ) (bs : List (List ℕ)) → length bs ≤ e → noted k e bs ≡ bs
noted-past k e [] h = refl
noted-past k zero (b ∷ bs) h = absurd (omega arith)
noted-past k (suc e) (b ∷ bs) h = ap (λ xs. b ∷ xs) (noted-past k e bs (omega arith))

-- past the last list there is none
pub absent : (bs : List (List ℕ)) (e : ℕ) → slice_get bs e ≡ None → slice_index_or bs e [] ≡ []
absent [] e h = refl
absent (b ∷ bs) zero h = absurd cc
absent (b ∷ bs) (suc e) h = absent bs e h

-- ---- tables by event

-- a table that has f of each event
abbrev table : (ℕ → List ℕ) → (i n : ℕ) → List (List ℕ)
table f i n = map f (range_with_len i n)

same-cons : {A : Type 0} {x y : A} {xs ys : List A} → x ≡ y → xs ≡ ys → x ∷ xs ≡ y ∷ ys
same-cons {y = y} {xs = xs} p q = ap (λ z. z ∷ xs) p ∙ ap (λ zs. y ∷ zs) q

same-table : (f g : ℕ → List ℕ) (i n : ℕ) → ((j : ℕ) → i ≤ j → f j ≡ g j) → table f i n ≡ table g i n
same-table f g i zero h = refl
same-table f g i (suc n) h = same-cons (h i (omega arith)) (same-table f g (i + 1) n (λ j l. h j (omega arith)))

empty-table : (i n : ℕ) → replicate n [] ≡ table (λ j. []) i n
empty-table i zero = refl
empty-table i (suc n) = ap (λ xs. [] ∷ xs) (empty-table (i + 1) n)

-- what becomes of the list of event j

abbrev after_one : (k e j : ℕ) → List ℕ → List ℕ
after_one k e j b = if nat_eq j e then with_last k b else b

abbrev after_all : (k : ℕ) → List ℕ → (j : ℕ) → List ℕ → List ℕ
after_all k [] j b = b
after_all k (e ∷ es) j b = after_all k es j (after_one k e j b)

abbrev after_each : (k : ℕ) → List (List ℕ) → (j : ℕ) → List ℕ → List ℕ
after_each k [] j b = b
after_each k (es ∷ ess) j b = after_each (k + 1) ess j (after_all k es j b)

chosen : {A : Type 0} (b c : Bool) (x y : A) → b ≡ c → (if b then x else y) ≡ (if c then x else y)
chosen b c x y h = ap (λ t. if t then x else y) h

noted-from : (k e i n : ℕ) (f : ℕ → List ℕ) → noted k e (table f i n) ≡ table (λ j. after_one k (i + e) j (f j)) i n
noted-from k e i zero f = refl
noted-from k zero i (suc n) f =
    let t : nat_eq i (i + 0) ≡ true = grind (arith, nat_tests) in
    same-cons
    (sym (chosen (nat_eq i (i + 0)) true (with_last k (f i)) (f i) t))
    (same-table f (λ j. after_one k (i + 0) j (f j)) (i + 1) n
    (λ j l. let u : nat_eq j (i + 0) ≡ false = grind (arith, nat_tests) in sym (chosen (nat_eq j (i + 0)) false (with_last k (f j)) (f j) u)))
noted-from k (suc e) i (suc n) f =
    let t : nat_eq i (i + suc e) ≡ false = grind (arith, nat_tests) in
    let m : i + 1 + e ≡ i + suc e = omega arith in
    same-cons
    (sym (chosen (nat_eq i (i + suc e)) false (with_last k (f i)) (f i) t))
    (noted-from k e (i + 1) n f ∙ ap (λ c. table (λ j. after_one k c j (f j)) (i + 1) n) m)

noted-table : (k e n : ℕ) (f : ℕ → List ℕ) → noted k e (table f 0 n) ≡ table (λ j. after_one k e j (f j)) 0 n
noted-table k e n f = let m : 0 + e ≡ e = omega arith in noted-from k e 0 n f ∙ ap (λ c. table (λ j. after_one k c j (f j)) 0 n) m

all-table : (k : ℕ) (es : List ℕ) (n : ℕ) (f : ℕ → List ℕ) → all_noted k es (table f 0 n) ≡ table (λ j. after_all k es j (f j)) 0 n
all-table k [] n f = refl
all-table k (e ∷ es) n f = ap (all_noted k es) (noted-table k e n f) ∙ all-table k es n (λ j. after_one k e j (f j))

each-table : (k : ℕ) (ess : List (List ℕ)) (n : ℕ) (f : ℕ → List ℕ) → each_noted k ess (table f 0 n) ≡ table (λ j. after_each k ess j (f j)) 0 n
each-table k [] n f = refl
each-table k (es ∷ ess) n f = ap (each_noted (k + 1) ess) (all-table k es n f) ∙ each-table (k + 1) ess n (λ j. after_all k es j (f j))

-- ---- the list of one event

-- once noted, an automaton isn't noted again
noted-once : (k : ℕ) (es : List ℕ) (j : ℕ) (b : List ℕ) → ends_in k b ≡ true → after_all k es j b ≡ b
noted-once k [] j b h = refl
noted-once k (e ∷ es) j b h = ap (after_all k es j) (by (nat_eq j e)) ∙ noted-once k es j b h
  where
    by : (t : Bool) → (if t then with_last k b else b) ≡ b
    by true = chosen (ends_in k b) true b (b ++ k ∷ []) h
    by false = refl

noted-all : (k : ℕ) (es : List ℕ) (j : ℕ) (b : List ℕ) → ends_in k b ≡ false → after_all k es j b ≡ (if list_any (nat_eq j) es then b ++ k ∷ [] else b)
noted-all k [] j b h = refl
noted-all k (e ∷ es) j b h = by (nat_eq j e) (noted-all k es j b h)
  where
    by : (t : Bool) → after_all k es j b ≡ (if list_any (nat_eq j) es then b ++ k ∷ [] else b) → after_all k es j (if t then with_last k b else b) ≡ (if t || list_any (nat_eq j) es then b ++ k ∷ [] else b)
    by true r =
        let t : nat_eq k k ≡ true = grind (arith, nat_tests) in
        ap (after_all k es j) (chosen (ends_in k b) false b (b ++ k ∷ []) h) ∙ noted-once k es j (b ++ k ∷ []) (ends-append k b k ∙ t)
    by false r = r

-- each of the numbers is below k
abbrev AreBelow : ℕ → List ℕ → Type 0
AreBelow k [] = Unit {0}
AreBelow k (x ∷ xs) = (x < k) × AreBelow k xs

below-ends : (k : ℕ) (b : List ℕ) → AreBelow k b → ends_in k b ≡ false
below-ends k [] h = refl
below-ends k (x ∷ []) h = let l : x < k = h.0 in grind (arith, nat_tests)
below-ends k (x ∷ y ∷ xs) h = below-ends k (y ∷ xs) h.1

below-more : (k : ℕ) (b : List ℕ) → AreBelow k b → AreBelow (k + 1) b
below-more k [] h = tt
below-more k (x ∷ xs) h = let l : x < k = h.0 in (omega arith, below-more k xs h.1)

below-with : (k : ℕ) (b : List ℕ) → AreBelow k b → AreBelow (k + 1) (b ++ k ∷ [])
below-with k [] h = (omega arith, tt)
below-with k (x ∷ xs) h = let l : x < k = h.0 in (omega arith, below-with k xs h.1)

-- the numbers from k on of those that pass
abbrev pub passing : {A : Type 0} → (A → Bool) → ℕ → List A → List ℕ
passing p k xs = map (λ x. x.0) (filter (λ x. p x.1) (enumerate_from k xs))

append-nil : (xs : List ℕ) → xs ++ [] ≡ xs
append-nil [] = refl
append-nil (x ∷ xs) = ap (λ ys. x ∷ ys) (append-nil xs)

each-passes : (k : ℕ) (ess : List (List ℕ)) (j : ℕ) (b : List ℕ) → AreBelow k b → after_each k ess j b ≡ b ++ passing (list_any (nat_eq j)) k ess
each-passes k [] j b h = sym (append-nil b)
each-passes k (es ∷ ess) j b h = ap (after_each (k + 1) ess j) (noted-all k es j b (below-ends k b h)) ∙ by (list_any (nat_eq j) es) (each-passes (k + 1) ess j)
  where
    by : (t : Bool) → ((c : List ℕ) → AreBelow (k + 1) c → after_each (k + 1) ess j c ≡ c ++ passing (list_any (nat_eq j)) (k + 1) ess) → after_each (k + 1) ess j (if t then b ++ k ∷ [] else b) ≡ b ++ map (λ x. x.0) (if t then (k, es) ∷ filter (λ x. list_any (nat_eq j) x.1) (enumerate_from (k + 1) ess) else filter (λ x. list_any (nat_eq j) x.1) (enumerate_from (k + 1) ess))
    by true r = r (b ++ k ∷ []) (below-with k b h) ∙ append_assoc b (k ∷ []) (passing (list_any (nat_eq j)) (k + 1) ess)
    by false r = r b (below-more k b h)

-- for each event the automata that have it among their events
pub each-noted : (ess : List (List ℕ)) (n : ℕ) → each_noted 0 ess (replicate n []) ≡ map (λ e. passing (list_any (nat_eq e)) 0 ess) (range_with_len 0 n)
each-noted ess n =
    ap (each_noted 0 ess) (empty-table 0 n) ∙ each-table 0 ess n (λ j. []) ∙ same-table (λ j. after_each 0 ess j []) (λ e. passing (list_any (nat_eq e)) 0 ess) 0 n (λ j l. each-passes 0 ess j [] tt)
