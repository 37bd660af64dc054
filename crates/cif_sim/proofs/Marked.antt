-- Marks that are off after some were turned on.
use Rattle.std.proofs.Common.{◌≡◌, ℕ, zero, suc, ◌/◌, ◌<◌, ◌≤◌, ◌≢◌, ◌⊎◌, inl, inr, Bool, true, false, ◌||◌, List, [], ◌∷◌, ◌++◌, length, take, cond, nat_eq, nat_lt, replicate, refl, sym, ap, ◌∙◌, arith, length-set, get_or-set_other, get_or-set_same}
use Rattle.std.specs.Prelude.{Some, slice_get, slice_set}
use Rattle.std.specs.List.{list_any}
use Rattle.std.proofs.lemmas.Bool.{ne_eqb}
use Rattle.std.proofs.lemmas.Bool.Decides.{eqb_tells, nat_tests}
use Rattle.cif_sim.specs.Marks.{AreGrouped, is_on, woken, woken_one}

pub all-on : (n k : ℕ) → k < n → is_on (replicate n true) k ≡ true
all-on zero k h = absurd (omega (arith, h))
all-on (suc n) zero h = refl
all-on (suc n) (suc k) h = all-on n k (omega (arith, h))

pub all-long : (n : ℕ) → length (replicate n true) ≡ n
all-long zero = refl
all-long (suc n) = ap suc (all-long n)

pub woken-below : (k : ℕ) (m : List Bool) → k < length m → woken_one k m ≡ slice_set m k true
unfolding woken_one
woken-below k m h =
    let is : nat_lt k (length m) ≡ true = grind (arith, nat_tests) in
    ap (λ b. cond b (slice_set m k true) (replicate (length m) true)) is

pub woken-past : (k : ℕ) (m : List Bool) → length m ≤ k → woken_one k m ≡ replicate (length m) true
unfolding woken_one
woken-past k m h =
    let is : nat_lt k (length m) ≡ false = grind (arith, nat_tests) in
    ap (λ b. cond b (slice_set m k true) (replicate (length m) true)) is

pub take-front : (ys zs : List Bool) (n : ℕ) → n ≡ length ys → take n (ys ++ zs) ≡ ys
take-front [] zs zero h = refl
take-front [] zs (suc n) h = absurd (omega (arith, h))
take-front (y ∷ ys) zs zero h = absurd (omega (arith, h))
take-front (y ∷ ys) zs (suc n) h = ap (λ xs. y ∷ xs) (take-front ys zs n (omega (arith, h)))

pub one-long : (k : ℕ) (m : List Bool) → length (woken_one k m) ≡ length m
unfolding woken_one
one-long k m = go (nat_lt k (length m))
  where
    go : (b : Bool) → length (cond b (slice_set m k true) (replicate (length m) true)) ≡ length m
    go true = length-set m k true
    go false = all-long (length m)

pub woken-long : (ks : List ℕ) (m : List Bool) → length (woken ks m) ≡ length m
woken-long [] m = refl
woken-long (k ∷ ks) m = woken-long ks (woken_one k m) ∙ one-long k m

not-both : (b : Bool) → b ≡ true → b ≡ false → ⊥
not-both b h g = cc

-- one number that is marked, or all
module _ (n e : ℕ) (inside : e < n) where
  one-off : (k : ℕ) (m : List Bool) → length m ≡ n → is_on (woken_one k m) e ≡ false → (is_on m e ≡ false) × (nat_eq e k ≡ false) × (nat_eq n k ≡ false)
  unfolding woken_one
  one-off k m long h = go (nat_lt k (length m)) refl h
    where
      go : (b : Bool) → nat_lt k (length m) ≡ b → is_on (cond b (slice_set m k true) (replicate (length m) true)) e ≡ false → (is_on m e ≡ false) × (nat_eq e k ≡ false) × (nat_eq n k ≡ false)
      go true is g =
          let less : k < length m = grind (arith, nat_tests, is) in
          let other : e ≢ k = λ same. not-both (is_on (slice_set m k true) e) (ap (is_on (slice_set m k true)) same ∙ get_or-set_same m k true false less) g in
          let past : n ≢ k = λ same. omega (arith, less, same, long) in
          (sym (get_or-set_other m k e true false other) ∙ g, ne_eqb e k other, ne_eqb n k past)
      go false is g = absurd (not-both (is_on (replicate (length m) true) e) (all-on (length m) e (omega (arith, inside, long))) g)

  either-off : (a b : Bool) → a ≡ false → b ≡ false → (a || b) ≡ false
  either-off a b h g = cc

  pub woken-off : (ks : List ℕ) (m : List Bool) → length m ≡ n → is_on (woken ks m) e ≡ false → (is_on m e ≡ false) × (list_any (nat_eq e) ks ≡ false) × (list_any (nat_eq n) ks ≡ false)
  woken-off [] m long h = (h, refl, refl)
  woken-off (k ∷ ks) m long h =
      let rest = woken-off ks (woken_one k m) (one-long k m ∙ long) h in
      let one = one-off k m long rest.0 in
      (one.0, either-off (nat_eq e k) (list_any (nat_eq e) ks) one.1 rest.1, either-off (nat_eq n k) (list_any (nat_eq n) ks) one.2 rest.2)

-- ---- groups

pub all-grouped : (count groups : ℕ) → AreGrouped (replicate count true) (replicate groups true)
all-grouped count groups k h = absurd (none-off groups (k / 256) h)
  where
    none-off : (n j : ℕ) → slice_get (replicate n true) j ≡ Some false → ⊥
    none-off zero j g = absurd cc
    none-off (suc n) zero g = cc
    none-off (suc n) (suc j) g = none-off n j g

get-other : (xs : List Bool) (k j : ℕ) (b : Bool) → (j ≡ k → ⊥) → slice_get (slice_set xs k b) j ≡ slice_get xs j
get-other [] k j b h = refl
get-other (x ∷ xs) zero zero b h = absurd (h refl)
get-other (x ∷ xs) zero (suc j) b h = refl
get-other (x ∷ xs) (suc k) zero b h = refl
get-other (x ∷ xs) (suc k) (suc j) b h = get-other xs k j b (λ e. h (ap suc e))

set-on : (xs : List Bool) (k : ℕ) → slice_get (slice_set xs k true) k ≡ Some false → ⊥
set-on [] k h = absurd cc
set-on (x ∷ xs) zero h = absurd cc
set-on (x ∷ xs) (suc k) h = set-on xs k h

set-off : (xs : List Bool) (k : ℕ) → is_on (slice_set xs k false) k ≡ false
set-off [] k = refl
set-off (x ∷ xs) zero = refl
set-off (x ∷ xs) (suc k) = set-off xs k

-- a mark that is turned on, with that of its group
pub woken-grouped : (m groups : List Bool) (e : ℕ) → AreGrouped m groups → AreGrouped (slice_set m e true) (slice_set groups (e / 256) true)
woken-grouped m groups e grouped k h = go (eqb_tells (k / 256) (e / 256))
  where
    go : ((nat_eq (k / 256) (e / 256) ≡ true) × (k / 256 ≡ e / 256)) ⊎ ((nat_eq (k / 256) (e / 256) ≡ false) × (k / 256 ≢ e / 256)) → is_on (slice_set m e true) k ≡ false
    go (inl q) = absurd (set-on groups (e / 256) (ap (slice_get (slice_set groups (e / 256) true)) (sym q.1) ∙ h))
    go (inr q) =
        let other : k ≢ e = λ same. q.1 (ap (λ j. j / 256) same) in
        get_or-set_other m e k true false other ∙ grouped k (sym (get-other groups (e / 256) (k / 256) true q.1) ∙ h)

-- a mark that is turned off, and that of its group, where all of that are off
pub slept-grouped : (m groups : List Bool) (e : ℕ) → AreGrouped m groups → AreGrouped (slice_set m e false) groups
slept-grouped m groups e grouped k h = go (eqb_tells k e)
  where
    go : ((nat_eq k e ≡ true) × (k ≡ e)) ⊎ ((nat_eq k e ≡ false) × (k ≢ e)) → is_on (slice_set m e false) k ≡ false
    go (inl q) = ap (is_on (slice_set m e false)) q.1 ∙ set-off m e
    go (inr q) = get_or-set_other m e k false false q.1 ∙ grouped k h

pub off-grouped : (m groups : List Bool) (j : ℕ) → ((k : ℕ) → k / 256 ≡ j → is_on m k ≡ false) → AreGrouped m groups → AreGrouped m (slice_set groups j false)
off-grouped m groups j off grouped k h = go (eqb_tells (k / 256) j)
  where
    go : ((nat_eq (k / 256) j ≡ true) × (k / 256 ≡ j)) ⊎ ((nat_eq (k / 256) j ≡ false) × (k / 256 ≢ j)) → is_on m k ≡ false
    go (inl q) = off k q.1
    go (inr q) = grouped k (sym (get-other groups j (k / 256) false q.1) ∙ h)
