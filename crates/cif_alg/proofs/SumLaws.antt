-- Sums over lists, and over all lists of a product: told without listing them.
use Rattle.std.proofs.Common.{◌≡◌, ℕ, ◌+◌, ◌*◌, List, [], ◌∷◌, map, flat_map, length, sum_by, refl, sym, ◌∙◌, ap, arith}
use Rattle.std.proofs.Math.Nat.{mul_assoc, mul_comm, mul-add, add-mul, suc-mul}
use Rattle.std.proofs.lemmas.List.Sums.{sum_by-cons, sum_by-append}
use Rattle.cif_system.specs.Choices.{product_by}
use Rattle.cif_net_model.specs.Counts.{weight}

pub sum-same : {A : Type 0} (f g : A → ℕ) → ((y : A) → f y ≡ g y) → (ys : List A) → sum_by f ys ≡ sum_by g ys
sum-same f g h [] = refl
sum-same f g h (y ∷ ys) = omega (arith, sum_by-cons f y ys, sum_by-cons g y ys, h y, sum-same f g h ys)

pub sum-mapped : {A B : Type 0} (g : B → ℕ) (f : A → B) (xs : List A) → sum_by g (map f xs) ≡ sum_by (λ x. g (f x)) xs
sum-mapped g f [] = refl
sum-mapped g f (x ∷ xs) = omega (arith, sum_by-cons g (f x) (map f xs), sum_by-cons (λ y. g (f y)) x xs, sum-mapped g f xs)

pub sum-flat : {A B : Type 0} (g : B → ℕ) (f : A → List B) (xs : List A) → sum_by g (flat_map f xs) ≡ sum_by (λ x. sum_by g (f x)) xs
sum-flat g f [] = refl
sum-flat g f (x ∷ xs) = omega (arith, sum_by-append g (f x) (flat_map f xs), sum_by-cons (λ y. sum_by g (f y)) x xs, sum-flat g f xs)

pub sum-nothing : {A : Type 0} (xs : List A) → sum_by (λ x. 0) xs ≡ 0
sum-nothing [] = refl
sum-nothing {A = A} (x ∷ xs) = let none : A → ℕ = λ y. 0 in omega (arith, sum_by-cons none x xs, sum-nothing xs)

pub sum-plus : {A : Type 0} (f g : A → ℕ) (xs : List A) → sum_by (λ x. f x + g x) xs ≡ sum_by f xs + sum_by g xs
sum-plus f g [] = refl
sum-plus f g (x ∷ xs) = omega (arith, sum_by-cons (λ y. f y + g y) x xs, sum_by-cons f x xs, sum_by-cons g x xs, sum-plus f g xs)

pub sum-swap : {A B : Type 0} (f : A → B → ℕ) (xs : List A) (ys : List B) → sum_by (λ x. sum_by (f x) ys) xs ≡ sum_by (λ y. sum_by (λ x. f x y) xs) ys
sum-swap f [] ys = sym (sum-nothing ys)
sum-swap f (x ∷ xs) ys =
    omega (
      arith,
      sum_by-cons (λ z. sum_by (f z) ys) x xs,
      sum-swap f xs ys,
      sum-plus (f x) (λ y. sum_by (λ z. f z y) xs) ys,
      sum-same (λ y. sum_by (λ z. f z y) (x ∷ xs)) (λ y. f x y + sum_by (λ z. f z y) xs) (λ y. sum_by-cons (λ z. f z y) x xs) ys,
    )

-- over all lists of the product, b and what the elements weigh
abbrev pub spread : ℕ → List (List ℕ) → ℕ
spread b [] = b
spread b (ws ∷ wss) = sum_by (λ w. spread (b + w) wss) ws

pub spread-weighed : (wss : List (List ℕ)) (b : ℕ) → spread b wss ≡ product_by length wss * b + weight (λ w. w) wss
spread-weighed [] b = omega arith
spread-weighed (ws ∷ wss) b = each (spread-weighed wss) ws ∙ whole
  where
    p : ℕ
    p = product_by length wss

    q : ℕ
    q = weight (λ w. w) wss

    each : ((c : ℕ) → spread c wss ≡ p * c + q) → (vs : List ℕ) → sum_by (λ w. spread (b + w) wss) vs ≡ length vs * (p * b + q) + sum_by (λ w. w) vs * p
    each r [] = omega arith
    each r (v ∷ vs) =
        let more : sum_by (λ w. w) (v ∷ vs) * p ≡ v * p + sum_by (λ w. w) vs * p = ap (λ k. k * p) (sum_by-cons (λ (w : ℕ). w) v vs) ∙ add-mul v (sum_by (λ w. w) vs) p in
        let most : length (v ∷ vs) * (p * b + q) ≡ length vs * (p * b + q) + (p * b + q) = suc-mul (length vs) (p * b + q) in
        let one : spread (b + v) wss ≡ p * b + v * p + q = omega (arith, r (b + v), mul-add p b v, mul_comm p v) in
        omega (arith, sum_by-cons (λ w. spread (b + w) wss) v vs, one, each r vs, more, most)

    whole : length ws * (p * b + q) + sum_by (λ w. w) ws * p ≡ length ws * p * b + (sum_by (λ w. w) ws * p + length ws * q)
    whole = omega (arith, mul-add (length ws) (p * b) q, mul_assoc (length ws) p b)
