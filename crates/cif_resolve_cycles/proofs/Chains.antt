-- Chains, and why none leads back to its start where each step falls.
use Rattle.std.proofs.Common.{◌≡◌, ℕ, zero, suc, ◌<◌, arith}
use Rattle.cif_system.specs.Words.{Chain, one, more}

pub chain-join : {A : Type 0} (R : A → A → Type 0) (x y z : A) → Chain R x y → Chain R y z → Chain R x z
chain-join R x y z (one r) d = more r d
chain-join R x y z (more {y = w} r c) d = more r (chain-join R w y z c d)

-- What has a step stands somewhere, and what a step leads to stands lower if it has a step too.
module _ {A : Type 0} (R : A → A → Type 0) (Has : A → Type 0) (At : ℕ → A → Type 0) (rank : ℕ → ℕ)
    (has : (x y : A) → R x y → Has x) (falls : (k : ℕ) (x y : A) → At k x → R x y → Has y → (j : ℕ) × At j y × (rank j < rank k)) where
  chain-has : (x y : A) → Chain R x y → Has x
  chain-has x y (one r) = has x y r
  chain-has x z (more {y = y} r c) = has x y r

  chain-lower : (x z : A) → Chain R x z → Has z → (k : ℕ) → At k x → (j : ℕ) × At j z × (rank j < rank k)
  chain-lower x z (one r) h k a = falls k x z a r h
  chain-lower x z (more {y = y} r c) h k a =
      let w = falls k x y a r (chain-has y z c) in
      let v = chain-lower y z c h w.0 w.1 in
      let first : rank w.0 < rank k = w.2 in
      let next : rank v.0 < rank w.0 = v.2 in
      (v.0, v.1, omega arith)

  pub no-cycle : (n k : ℕ) (x : A) → rank k < n → At k x → Chain R x x → ⊥
  no-cycle zero k x l a c = absurd (omega arith)
  no-cycle (suc n) k x l a c =
      let w = chain-lower x x c (chain-has x x c) k a in
      let less : rank w.0 < n = let next : rank w.0 < rank k = w.2 in omega arith in
      no-cycle n w.0 x less w.1 c
