-- Sums over lists, one of another and in any order.
use Rattle.std.proofs.Common.{◌≡◌, ℕ, zero, suc, ◌+◌, ◌*◌, ◌≤◌, ◌<◌, Bool, true, false, List, [], ◌∷◌, length, refl, ap, ◌∙◌, arith, inl}
use Rattle.std.specs.Prelude.{nat_eq, ◌||◌, if◌then◌else◌}
use Rattle.std.specs.List.{list_any, sum_by, range_with_len}
use Rattle.std.proofs.lemmas.List.Sums.{sum_by-cons}
use Rattle.std.proofs.lemmas.Bool.Decides.{nat_tests}
use Rattle.cif_system.specs.Words.{Member}

abbrev pub total : {A : Type 0} → (A → ℕ) → List A → ℕ
total f [] = 0
total f (x ∷ xs) = f x + total f xs

pub summed : {A : Type 0} (f : A → ℕ) (xs : List A) → sum_by f xs ≡ total f xs
summed f [] = refl
summed f (x ∷ xs) = sum_by-cons f x xs ∙ ap (λ n. f x + n) (summed f xs)

pub total_less : {A : Type 0} (f g : A → ℕ) (xs : List A) → ((x : A) → f x ≤ g x) → total f xs ≤ total g xs
total_less f g [] h = omega arith
total_less f g (x ∷ xs) h = let a = h x in let b = total_less f g xs h in omega arith

pub total_plus : {A : Type 0} (f g : A → ℕ) (xs : List A) → total (λ x. f x + g x) xs ≡ total f xs + total g xs
total_plus f g [] = refl
total_plus f g (x ∷ xs) = let a = total_plus f g xs in omega arith

total_zero : {A : Type 0} (xs : List A) → total (λ x. 0) xs ≡ 0
total_zero [] = refl
total_zero (x ∷ xs) = let a = total_zero xs in omega arith

pub total_one : {A : Type 0} (xs : List A) → total (λ x. 1) xs ≡ length xs
total_one [] = refl
total_one (x ∷ xs) = let a = total_one xs in omega arith

-- the sum of sums, each element by itself
pub total_swapped : {A B : Type 0} (f : A → B → ℕ) (k : B → ℕ) (es : List A) (xs : List B) → ((x : B) → total (λ e. f e x) es ≤ k x) → total (λ e. total (f e) xs) es ≤ total k xs
total_swapped f k es [] h = let a = total_zero es in omega arith
total_swapped f k es (x ∷ xs) h =
    let a = h x in
    let b = total_swapped f k es xs h in
    let c = total_plus (λ e. f e x) (λ e. total (f e) xs) es in
    omega arith

-- what one number of a range gives
abbrev pub where_equal : (b x e : ℕ) → ℕ
where_equal b x e = if nat_eq e x then b else 0

not_yet : (b x a n : ℕ) → x < a → total (where_equal b x) (range_with_len a n) ≡ 0
not_yet b x a zero l = refl
not_yet b x a (suc n) l = let more = not_yet b x (a + 1) n (omega arith) in rw (go a x l) (omega arith)
  where
    go : (a x : ℕ) → x < a → nat_eq a x ≡ false
    go a x l = grind (arith, nat_tests)

pub once : (b x a n : ℕ) → total (where_equal b x) (range_with_len a n) ≤ b
once b x a zero = omega arith
once b x a (suc n) = go (nat_eq a x) refl (once b x (a + 1) n)
  where
    equal : (a x : ℕ) → nat_eq a x ≡ true → a ≡ x
    equal a x e = grind (arith, nat_tests)

    go : (t : Bool) → nat_eq a x ≡ t → total (where_equal b x) (range_with_len (a + 1) n) ≤ b → (if nat_eq a x then b else 0) + total (where_equal b x) (range_with_len (a + 1) n) ≤ b
    go true e more = let same = equal a x e in let rest = not_yet b x (a + 1) n (omega arith) in rw e (omega arith)
    go false e more = rw e (omega arith)

-- of a list with one element at most
pub at_most_one : {A : Type 0} (f : A → ℕ) (k : ℕ) (xs : List A) → length xs ≤ 1 → ((x : A) → Member x xs → f x ≤ k) → total f xs ≤ k
at_most_one f k [] l h = omega arith
at_most_one f k (x ∷ []) l h = let a = h x (inl refl) in omega arith
at_most_one f k (x ∷ y ∷ xs) l h = absurd (omega arith)

-- ---- lists that have a number

either : (p q : Bool) (b : ℕ) → (if p || q then b else 0) ≤ (if p then b else 0) + (if q then b else 0)
either true q b = omega arith
either false q b = omega arith

-- of a list each number counts once
pub members_once : (b a n : ℕ) (xs : List ℕ) → total (λ e. if list_any (nat_eq e) xs then b else 0) (range_with_len a n) ≤ total (λ x. b) xs
members_once b a n [] = let e = total_zero (range_with_len a n) in omega arith
members_once b a n (x ∷ xs) =
    let es : List ℕ = range_with_len a n in
    let split = total_less (λ e. if list_any (nat_eq e) (x ∷ xs) then b else 0) (λ e. where_equal b x e + (if list_any (nat_eq e) xs then b else 0)) es (λ e. either (nat_eq e x) (list_any (nat_eq e) xs) b) in
    let sum = total_plus (where_equal b x) (λ e. if list_any (nat_eq e) xs then b else 0) es in
    let here = once b x a n in
    let more = members_once b a n xs in
    omega arith

pub each_alike : {A : Type 0} (k : ℕ) (xs : List A) → total (λ x. k) xs ≡ k * length xs
each_alike k [] = omega arith
each_alike k (x ∷ xs) = let more = each_alike k xs in let product : k * length (x ∷ xs) ≡ k + k * length xs = grind arith in omega arith
