-- What a product of lists weighs, and counts that stop at a limit.
use Rattle.std.proofs.Common.{◌≡◌, ℕ, zero, suc, ◌+◌, ◌*◌, ◌≤◌, min, List, [], ◌∷◌, map, length, sum_by, flat_map, refl, ◌∙◌, ap, arith, length-append, ◌⊎◌, inl, inr, ⊎_elim}
use Rattle.std.proofs.lemmas.List.Sums.{sum_by-cons, sum_by-append}
use Rattle.std.proofs.Math.Nat.{suc-mul, add-mul, mul_comm, mul-le-mul}
use Rattle.cif_system.specs.Choices.{product_of, product_by}
use Rattle.cif_net_model.specs.Counts.{weight}

-- one element before each list
prefixed-length : {A : Type 0} (x : A) (xss : List (List A)) → length (map (λ ys. x ∷ ys) xss) ≡ length xss
prefixed-length x [] = refl
prefixed-length x (ys ∷ xss) = omega (arith, prefixed-length x xss)

prefixed-weight : {A : Type 0} (w : A → ℕ) (x : A) (xss : List (List A)) → sum_by (sum_by w) (map (λ ys. x ∷ ys) xss) ≡ length xss * w x + sum_by (sum_by w) xss
prefixed-weight w x [] = omega arith
prefixed-weight w x (ys ∷ xss) =
    omega
    (arith, sum_by-cons (sum_by w) (x ∷ ys) (map (λ zs. x ∷ zs) xss), sum_by-cons w x ys, sum_by-cons (sum_by w) ys xss, prefixed-weight w x xss, suc-mul (length xss) (w x))

-- each of the elements before each list
spread-length : {A : Type 0} (xs : List A) (xss : List (List A)) → length (flat_map (λ x. map (λ ys. x ∷ ys) xss) xs) ≡ length xs * length xss
spread-length [] xss = omega arith
spread-length (x ∷ xs) xss =
    omega (arith, length-append (map (λ ys. x ∷ ys) xss) (flat_map (λ y. map (λ ys. y ∷ ys) xss) xs), prefixed-length x xss, spread-length xs xss, suc-mul (length xs) (length xss))

spread-weight : {A : Type 0} (w : A → ℕ) (xs : List A) (xss : List (List A)) → sum_by (sum_by w) (flat_map (λ x. map (λ ys. x ∷ ys) xss) xs) ≡ sum_by w xs * length xss + length xs * sum_by (sum_by w) xss
spread-weight w [] xss = omega arith
spread-weight w (x ∷ xs) xss =
    omega (
      arith,
      sum_by-append (sum_by w) (map (λ ys. x ∷ ys) xss) (flat_map (λ y. map (λ ys. y ∷ ys) xss) xs),
      prefixed-weight w x xss,
      spread-weight w xs xss,
      ap (λ n. n * length xss) (sum_by-cons w x xs),
      add-mul (w x) (sum_by w xs) (length xss),
      mul_comm (w x) (length xss),
      suc-mul (length xs) (sum_by (sum_by w) xss),
    )

pub product-length : {A : Type 0} (xss : List (List A)) → length (product_of xss) ≡ product_by length xss
product-length [] = refl
product-length (xs ∷ xss) = spread-length xs (product_of xss) ∙ ap (λ n. length xs * n) (product-length xss)

pub product-weight : {A : Type 0} (w : A → ℕ) (xss : List (List A)) → sum_by (sum_by w) (product_of xss) ≡ weight w xss
product-weight w [] = refl
product-weight w (xs ∷ xss) =
    spread-weight w xs (product_of xss) ∙ ap (λ n. sum_by w xs * n + length xs * sum_by (sum_by w) (product_of xss)) (product-length xss)
    ∙ ap (λ n. sum_by w xs * product_by length xss + length xs * n) (product-weight w xss)

-- a sum and a product may be stopped at m on the way

pub stop-add : (a b m : ℕ) → min (a + b) m ≡ min (min a m + min b m) m
stop-add a b m = omega arith

split : (m n : ℕ) → (m ≤ n) ⊎ (n ≤ m)
split zero n = inl (omega arith)
split (suc m) zero = inr (omega arith)
split (suc m) (suc n) = ⊎_elim (λ (h : m ≤ n). inl (omega arith)) (λ (h : n ≤ m). inr (omega arith)) (split m n)

-- a factor that reaches m, beside one that is not 0
reaches : (a b m : ℕ) → 1 ≤ m → m ≤ a → 1 ≤ b → min (a * b) m ≡ min (min a m * min b m) m
reaches a b m h k l =
    let p : m * 1 ≤ a * b = mul-le-mul k l in
    let o : 1 ≤ min b m = omega arith in
    let q : m * 1 ≤ min a m * min b m = mul-le-mul (omega arith) o in
    omega arith

within : (a m : ℕ) → a ≤ m → a ≡ min a m
within a m h = omega arith

pub stop-mul : (a b m : ℕ) → 1 ≤ m → min (a * b) m ≡ min (min a m * min b m) m
stop-mul zero b m h =
    let e : 0 * b ≡ 0 * min b m = omega arith in
    ap (λ n. min n m) (e ∙ ap (λ n. n * min b m) (within 0 m (omega arith)))
stop-mul (suc a) zero m h =
    let e : suc a * 0 ≡ min (suc a) m * 0 = omega arith in
    ap (λ n. min n m) (e ∙ ap (λ n. min (suc a) m * n) (within 0 m (omega arith)))
stop-mul (suc a) (suc b) m h =
    ⊎_elim
    (λ (k : m ≤ suc a). reaches (suc a) (suc b) m h k (omega arith))
    (λ (k : suc a ≤ m).
    ⊎_elim
    (λ (l : m ≤ suc b). ap (λ n. min n m) (mul_comm (suc a) (suc b)) ∙ reaches (suc b) (suc a) m h l (omega arith) ∙ ap (λ n. min n m) (mul_comm (min (suc b) m) (min (suc a) m)))
    (λ (l : suc b ≤ m). ap (λ n. min n m) (ap (λ n. n * suc b) (within (suc a) m k) ∙ ap (λ n. min (suc a) m * n) (within (suc b) m l)))
    (split m (suc b)))
    (split m (suc a))
