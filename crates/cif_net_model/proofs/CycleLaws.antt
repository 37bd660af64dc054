-- No algebraic variable depends on itself where each names lower ones alone.
use Rattle.std.proofs.Common.{◌≡◌, ℕ, zero, suc, ◌+◌, ◌<◌, Bool, true, ◌&&◌, nat_lt, List, [], ◌∷◌, flat_map, Some, subst, arith, slice_get}
use Rattle.std.specs.List.{list_all}
use Rattle.std.proofs.lemmas.Bool.Decides.{nat_tests}
use Rattle.cif_system.specs.Words.{Member}
use Rattle.cif_net_model.specs.Net.{NetAlg, Net}
use Rattle.cif_net_model.specs.Exprs.{alg_exprs}
use Rattle.cif_net_model.specs.Reads.{an_alg, alg_passes, names_in}
use Rattle.cif_system.specs.Words.{Chain, one, more}
use Rattle.cif_net_model.specs.Rules.{Needs, IsAcyclic}
use Rattle.cif_net_model.proofs.Passing.{and-left, and-right, all-member}

-- a chain falls where each step does
chain-falls : {A : Type 0} (R : A → A → Type 0) (rank : A → ℕ) → ((x y : A) → R x y → rank y < rank x) → (x y : A) → Chain R x y → rank y < rank x
chain-falls R rank h x y (one r) = h x y r
chain-falls R rank h x z (more {y = y} r c) = omega (arith, h x y r, chain-falls R rank h y z c)

pub acyclic-by_rank : (n : Net) (rank : ℕ → ℕ) → ((j k : ℕ) → Needs n j k → rank k < rank j) → IsAcyclic n
acyclic-by_rank n rank h k c = absurd (omega (arith, chain-falls (Needs n) rank h k k c))

-- each of them names lower ones alone, where k is the number of the first
abbrev pub names_below : ℕ → List NetAlg → Bool
names_below k [] = true
names_below k (a ∷ ds) = list_all (alg_passes (λ x. nat_lt x k)) (flat_map names_in (alg_exprs a)) && names_below (suc k) ds

below-at : (ds : List NetAlg) (i j k : ℕ) (a : NetAlg) → names_below i ds ≡ true → slice_get ds j ≡ Some a → Member (an_alg k) (flat_map names_in (alg_exprs a)) → k < i + j
below-at [] i j k a h g m = absurd cc
below-at (b ∷ ds) i zero k a h g m =
    let same : b ≡ a = cc in
    let t : list_all (alg_passes (λ x. nat_lt x i)) (flat_map names_in (alg_exprs a)) ≡ true = subst (λ c. list_all (alg_passes (λ x. nat_lt x i)) (flat_map names_in (alg_exprs c)) ≡ true) same (and-left _ _ h) in
    let u : nat_lt k i ≡ true = all-member (alg_passes (λ x. nat_lt x i)) (flat_map names_in (alg_exprs a)) (an_alg k) t m in
    grind (arith, nat_tests)
below-at (b ∷ ds) i (suc j) k a h g m = omega (arith, below-at ds (suc i) j k a (and-right _ _ h) g m)

pub acyclic-by_number : (n : Net) → names_below 0 n.algs ≡ true → IsAcyclic n
acyclic-by_number n h = acyclic-by_rank n (λ k. k) (λ j k r. omega (arith, below-at n.algs 0 j k r.0 h r.1 r.2))
