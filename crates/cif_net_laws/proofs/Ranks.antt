-- A rank that falls along needs, as a number below that of the nodes.
use Rattle.std.proofs.Common.{◌≡◌, ◌⊎◌, ℕ, zero, suc, ◌+◌, ◌<◌, ◌≤◌, Bool, true, false, inl, inr, refl, sym, subst, arith}
use Rattle.std.specs.Prelude.{nat_lt}
use Rattle.std.proofs.lemmas.Bool.Decides.{nat_tests}

abbrev one_if : Bool → ℕ
one_if true = 1
one_if false = 0

-- how many of the numbers below n have a rank below v
abbrev pub lower : (ℕ → ℕ) → (v n : ℕ) → ℕ
lower rank v zero = 0
lower rank v (suc n) = lower rank v n + one_if (nat_lt (rank n) v)

one-more : (b : Bool) → one_if b ≤ 1
one-more true = omega arith
one-more false = omega arith

not-below : (a v : ℕ) → v ≤ a → one_if (nat_lt a v) ≡ 0
not-below a v h = let t : nat_lt a v ≡ false = grind (arith, nat_tests) in subst (λ b. one_if b ≡ 0) (sym t) refl

is-below : (a v : ℕ) → a < v → one_if (nat_lt a v) ≡ 1
is-below a v h = let t : nat_lt a v ≡ true = grind (arith, nat_tests) in subst (λ b. one_if b ≡ 1) (sym t) refl

no-less : (a v w : ℕ) → v ≤ w → one_if (nat_lt a v) ≤ one_if (nat_lt a w)
no-less a v w h = by (nat_lt a v) refl
  where
    by : (b : Bool) → nat_lt a v ≡ b → one_if b ≤ one_if (nat_lt a w)
    by true p = let l : a < w = grind (arith, nat_tests) in omega (arith, is-below a w l)
    by false p = omega arith

last-or : (k n : ℕ) → k < suc n → (k ≡ n) ⊎ (k < n)
last-or zero zero h = inl refl
last-or zero (suc n) h = inr (omega arith)
last-or (suc k) zero h = absurd (omega (arith, h))
last-or (suc k) (suc n) h = elim (last-or k n (omega (arith, h))) [ inl e ↦ inl (omega (arith, e)) | inr l ↦ inr (omega (arith, l)) ]

module _ (rank : ℕ → ℕ) where
  most : (v n : ℕ) → lower rank v n ≤ n
  most v zero = omega arith
  most v (suc n) = omega (arith, most v n, one-more (nat_lt (rank n) v))

  wider : (v w n : ℕ) → v ≤ w → lower rank v n ≤ lower rank w n
  wider v w zero h = omega arith
  wider v w (suc n) h = omega (arith, wider v w n h, no-less (rank n) v w h)

  -- one of them has no rank below v
  fewer : (v n k : ℕ) → k < n → v ≤ rank k → lower rank v n < n
  fewer v zero k h g = absurd (omega (arith, h))
  fewer v (suc n) k h g = elim (last-or k n h) [
    | inl e ↦ let l : v ≤ rank n = subst (λ j. v ≤ rank j) e g in omega (arith, most v n, not-below (rank n) v l)
    | inr l ↦ omega (arith, fewer v n k l g, one-more (nat_lt (rank n) v))
  ]

  -- one of them has a rank below w alone
  more : (v w n k : ℕ) → k < n → v ≤ rank k → rank k < w → lower rank v n < lower rank w n
  more v w zero k h g l = absurd (omega (arith, h))
  more v w (suc n) k h g l = elim (last-or k n h) [
    | inl e ↦
        let a : v ≤ rank n = subst (λ j. v ≤ rank j) e g in
        let b : rank n < w = subst (λ j. rank j < w) e l in
        omega (arith, wider v w n (omega (arith, g, l)), not-below (rank n) v a, is-below (rank n) w b)
    | inr m ↦ omega (arith, more v w n k m g l, no-less (rank n) v w (omega (arith, g, l)))
  ]

  -- how many have a lower rank
  abbrev pub ranked : ℕ → ℕ → ℕ
  ranked n k = lower rank (rank k) n

  pub ranked-below : (n k : ℕ) → k < n → ranked n k < n
  ranked-below n k h = fewer (rank k) n k h (omega arith)

  pub ranked-falls : (n j k : ℕ) → k < n → rank k < rank j → ranked n k < ranked n j
  ranked-falls n j k h g = more (rank k) (rank j) n k h (omega arith) g
