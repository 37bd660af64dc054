-- Elements by place, of lists that are made from lists.
use Rattle.std.proofs.Common.{◌≡◌, ℕ, zero, suc, ◌+◌, Bool, true, false, cond, ◌⊎◌, inl, inr, List, [], ◌∷◌, ◌++◌, length, map, filter, Some, refl, sym, ◌∙◌, ap, subst, arith}
use Rattle.std.specs.Prelude.{slice_get, ◌&&◌, ◌||◌, flat_map, zip}
use Rattle.std.specs.List.{list_all, list_any, enumerate_from}
use Rattle.cif_system.specs.Words.{Member}
use Rattle.cif_system.specs.Choices.{product_of}
use Rattle.cif_system.proofs.Lists.{some-same, none-some, false-true}

pub and-left : (a b : Bool) → (a && b) ≡ true → a ≡ true
and-left true b h = refl
and-left false b h = h

pub and-right : (a b : Bool) → (a && b) ≡ true → b ≡ true
and-right true b h = h
and-right false b h = absurd (false-true refl h)

pub or-cases : (a b : Bool) → (a || b) ≡ true → (a ≡ true) ⊎ (b ≡ true)
or-cases true b h = inl refl
or-cases false b h = inr h

pub true-or-right : (a : Bool) → (a || true) ≡ true
true-or-right true = refl
true-or-right false = refl

pub all-at : {A : Type 0} → (p : A → Bool) → (xs : List A) → (k : ℕ) → (y : A) → list_all p xs ≡ true → slice_get xs k ≡ Some y → p y ≡ true
all-at p [] k y h g = absurd (none-some y g)
all-at p (x ∷ xs) zero y h g = subst (λ z. p z ≡ true) (some-same x y g) (and-left (p x) (list_all p xs) h)
all-at p (x ∷ xs) (suc k) y h g = all-at p xs k y (and-right (p x) (list_all p xs) h) g

pub any-at : {A : Type 0} → (p : A → Bool) → (xs : List A) → (k : ℕ) → (y : A) → slice_get xs k ≡ Some y → p y ≡ true → list_any p xs ≡ true
any-at p [] k y g h = absurd (none-some y g)
any-at p (x ∷ xs) zero y g h = ap (λ b. b || list_any p xs) (subst (λ z. p z ≡ true) (sym (some-same x y g)) h)
any-at p (x ∷ xs) (suc k) y g h = ap (λ b. p x || b) (any-at p xs k y g h) ∙ true-or-right (p x)

-- none of the elements passes
pub none-at : {A : Type 0} → (q : A → Bool) → (xs : List A) → (k : ℕ) → (y : A) → length (filter q xs) ≡ 0 → slice_get xs k ≡ Some y → q y ≡ false
none-at q [] k y h g = absurd (none-some y g)
none-at q (x ∷ xs) zero y h g =
    (elim (q x) as (λ b. q x ≡ b → length (cond b (x ∷ filter q xs) (filter q xs)) ≡ 0 → q y ≡ false) [
      | true ↦ λ e l. absurd (omega (arith, l))
      | false ↦ λ e l. subst (λ z. q z ≡ false) (some-same x y g) e
    ]) refl h
none-at q (x ∷ xs) (suc k) y h g =
    (elim (q x) as (λ b. length (cond b (x ∷ filter q xs) (filter q xs)) ≡ 0 → q y ≡ false) [
      | true ↦ λ l. absurd (omega (arith, l))
      | false ↦ λ l. none-at q xs k y l g
    ]) h

-- one element passes, and no other one
pub record One {A : Type 0} (q : A → Bool) (xs : List A) : Type 0 where
  pub at : ℕ
  pub here : A
  pub is : slice_get xs at ≡ Some here
  pub passes : q here ≡ true
  pub alone : (k : ℕ) (y : A) → slice_get xs k ≡ Some y → q y ≡ true → k ≡ at

pub one-of : {A : Type 0} → (q : A → Bool) → (xs : List A) → length (filter q xs) ≡ 1 → One q xs
one-of q [] h = absurd (omega (arith, h))
one-of {A} q (x ∷ xs) h =
    (elim (q x) as (λ b. q x ≡ b → length (cond b (x ∷ filter q xs) (filter q xs)) ≡ 1 → One q (x ∷ xs)) [
      | true ↦ λ e l. record { at = 0; here = x; is = refl; passes = e; alone = first (omega (arith, l)) }
      | false ↦ λ e l. let rest : One q xs = one-of q xs l in record { at = suc rest.at; here = rest.here; is = rest.is; passes = rest.passes; alone = later e rest }
    ]) refl h
  where
    first : length (filter q xs) ≡ 0 → (k : ℕ) (y : A) → slice_get (x ∷ xs) k ≡ Some y → q y ≡ true → k ≡ 0
    first l zero y g p = refl
    first l (suc k) y g p = absurd (false-true (none-at q xs k y l g) p)

    later : q x ≡ false → (rest : One q xs) → (k : ℕ) (y : A) → slice_get (x ∷ xs) k ≡ Some y → q y ≡ true → k ≡ suc rest.at
    later e rest zero y g p = absurd (false-true e (subst (λ z. q z ≡ true) (sym (some-same x y g)) p))
    later e rest (suc k) y g p = ap suc (rest.alone k y g p)

pub append-left : {A : Type 0} → (x : A) → (xs ys : List A) → Member x xs → Member x (xs ++ ys)
append-left x [] ys m = absurd m
append-left x (y ∷ xs) ys m = elim m [ inl w ↦ inl w | inr w ↦ inr (append-left x xs ys w) ]

pub append-right : {A : Type 0} → (x : A) → (xs ys : List A) → Member x ys → Member x (xs ++ ys)
append-right x [] ys m = m
append-right x (y ∷ xs) ys m = inr (append-right x xs ys m)

pub map-member : {A B : Type 0} → (f : A → B) → (x : A) → (xs : List A) → Member x xs → Member (f x) (map f xs)
map-member f x [] m = absurd m
map-member f x (y ∷ xs) m = elim m [ inl w ↦ inl (ap f w) | inr w ↦ inr (map-member f x xs w) ]

pub flat_map-member : {A B : Type 0} → (f : A → List B) → (x : A) → (xs : List A) → (y : B) → Member x xs → Member y (f x) → Member y (flat_map f xs)
flat_map-member f x [] y m n = absurd m
flat_map-member f x (z ∷ xs) y m n =
    elim m [
      | inl w ↦ append-left y (f z) (flat_map f xs) (subst (λ v. Member y (f v)) w n)
      | inr w ↦ append-right y (f z) (flat_map f xs) (flat_map-member f x xs y w n)
    ]

pub at-member : {A : Type 0} → (xs : List A) → (k : ℕ) → (y : A) → slice_get xs k ≡ Some y → Member y xs
at-member [] k y g = none-some y g
at-member (x ∷ xs) zero y g = inl (sym (some-same x y g))
at-member (x ∷ xs) (suc k) y g = inr (at-member xs k y g)

pub product_of-member : {A : Type 0} → (xss : List (List A)) → (ys : List A) → length ys ≡ length xss
    → ((k : ℕ) (xs : List A) (y : A) → slice_get xss k ≡ Some xs → slice_get ys k ≡ Some y → Member y xs) → Member ys (product_of xss)
product_of-member [] [] l h = inl refl
product_of-member [] (y ∷ ys) l h = absurd (omega (arith, l))
product_of-member (xs ∷ xss) [] l h = absurd (omega (arith, l))
product_of-member (xs ∷ xss) (y ∷ ys) l h =
    flat_map-member (λ x. map (λ zs. x ∷ zs) (product_of xss)) y xs (y ∷ ys) (h 0 xs y refl refl)
    (map-member (λ zs. y ∷ zs) ys (product_of xss) (product_of-member xss ys (omega (arith, l)) (λ k zs z a b. h (suc k) zs z a b)))

-- what stands at a place of a mapped, a numbered and a paired list
pub map-at : {A B : Type 0} → (f : A → B) → (xs : List A) → (k : ℕ) → (y : B) → slice_get (map f xs) k ≡ Some y → (x : A) × (slice_get xs k ≡ Some x) × (y ≡ f x)
map-at f [] k y g = absurd (none-some y g)
map-at f (x ∷ xs) zero y g = (x, refl, sym (some-same (f x) y g))
map-at f (x ∷ xs) (suc k) y g = map-at f xs k y g

pub enumerate_from-at : {A : Type 0} → (xs : List A) → (n k j : ℕ) → (y : A) → slice_get xs k ≡ Some y → j ≡ n + k → slice_get (enumerate_from n xs) k ≡ Some (j, y)
enumerate_from-at [] n k j y g h = absurd (none-some y g)
enumerate_from-at (x ∷ xs) n zero j y g h = ap (λ z. Some (z, x)) (omega (arith, h)) ∙ ap (λ z. Some (j, z)) (some-same x y g)
enumerate_from-at (x ∷ xs) n (suc k) j y g h = enumerate_from-at xs (n + 1) k j y g (omega (arith, h))

pub at-enumerate_from : {A : Type 0} → (xs : List A) → (n k : ℕ) → (z : ℕ × A) → slice_get (enumerate_from n xs) k ≡ Some z → (slice_get xs k ≡ Some z.1) × (z.0 ≡ n + k)
at-enumerate_from [] n k z g = absurd (none-some z g)
at-enumerate_from (x ∷ xs) n zero z g = let e = some-same (n, x) z g in (ap (λ v. Some v.1) e, sym (ap (λ v. v.0) e) ∙ omega arith)
at-enumerate_from (x ∷ xs) n (suc k) z g = let r = at-enumerate_from xs (n + 1) k z g in (r.0, omega (arith, r.1))

pub zip-at : {A B : Type 0} → (xs : List A) → (ys : List B) → (k : ℕ) → (x : A) → (y : B) → slice_get xs k ≡ Some x → slice_get ys k ≡ Some y → slice_get (zip xs ys) k ≡ Some (x, y)
zip-at [] ys k x y g h = absurd (none-some x g)
zip-at (a ∷ xs) [] k x y g h = absurd (none-some y h)
zip-at (a ∷ xs) (b ∷ ys) zero x y g h = ap (λ z. Some (z, b)) (some-same a x g) ∙ ap (λ z. Some (x, z)) (some-same b y h)
zip-at (a ∷ xs) (b ∷ ys) (suc k) x y g h = zip-at xs ys k x y g h

pub at-zip : {A B : Type 0} → (xs : List A) → (ys : List B) → (k : ℕ) → (z : A × B) → slice_get (zip xs ys) k ≡ Some z → (slice_get xs k ≡ Some z.0) × (slice_get ys k ≡ Some z.1)
at-zip [] ys k z g = absurd (none-some z g)
at-zip (a ∷ xs) [] k z g = absurd (none-some z g)
at-zip (a ∷ xs) (b ∷ ys) zero z g = let e = some-same (a, b) z g in (ap (λ v. Some v.0) e, ap (λ v. Some v.1) e)
at-zip (a ∷ xs) (b ∷ ys) (suc k) z g = at-zip xs ys k z g
