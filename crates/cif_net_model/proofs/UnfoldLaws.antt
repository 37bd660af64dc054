-- Definitions unfolded: one step, and that more unfoldings than a rank change nothing.
use Rattle.std.proofs.Common.{◌≡◌, ℕ, zero, suc, ◌<◌, List, [], ◌∷◌, map, Some, None, refl, sym, ◌∙◌, ap, arith, slice_get}
use Rattle.cif_net_model.specs.Unfolding.{at_or, unfolded}

pub map-at : {D A : Type 0} (d : A) (h : D → A) (ds : List D) (k : ℕ) (x : D) → slice_get ds k ≡ Some x → at_or d (map h ds) k ≡ h x
map-at d h [] k x g = absurd cc
map-at d h (y ∷ ds) zero x g = let e : y ≡ x = cc in ap h e
map-at d h (y ∷ ds) (suc k) x g = map-at d h ds k x g

pub map-past : {D A : Type 0} (d : A) (h : D → A) (ds : List D) (k : ℕ) → slice_get ds k ≡ None → at_or d (map h ds) k ≡ d
map-past d h [] k g = refl
map-past d h (y ∷ ds) zero g = absurd cc
map-past d h (y ∷ ds) (suc k) g = map-past d h ds k g

module _ {D A : Type 0} (d : A) (f : (ℕ → A) → D → A) (ds : List D) where
  -- what is told of a definition with one unfolding more
  pub unfolded-at : (n k : ℕ) (x : D) → slice_get ds k ≡ Some x → at_or d (unfolded d f ds (suc n)) k ≡ f (at_or d (unfolded d f ds n)) x
  unfolded-at n k x g = map-at d (f (at_or d (unfolded d f ds n))) ds k x g

  pub unfolded-past : (n k : ℕ) → slice_get ds k ≡ None → at_or d (unfolded d f ds n) k ≡ d
  unfolded-past zero k g = refl
  unfolded-past (suc n) k g = map-past d (f (at_or d (unfolded d f ds n))) ds k g

  -- N x k: the definition x names k; what f tells hangs on what is told of the names
  module _ (N : D → ℕ → Type 0) (alike : (g h : ℕ → A) (x : D) → ((k : ℕ) → N x k → g k ≡ h k) → f g x ≡ f h x)
      (rank : ℕ → ℕ) (falls : (j k : ℕ) (x : D) → slice_get ds j ≡ Some x → N x k → rank k < rank j) where
    pub unfolded-stable : (n m k : ℕ) → rank k < n → rank k < m → at_or d (unfolded d f ds n) k ≡ at_or d (unfolded d f ds m) k
    unfolded-stable zero m k h i = absurd (omega (arith, h))
    unfolded-stable (suc n) zero k h i = absurd (omega (arith, i))
    unfolded-stable (suc n) (suc m) k h i =
        elim (slice_get ds k) as (λ o. slice_get ds k ≡ o → at_or d (unfolded d f ds (suc n)) k ≡ at_or d (unfolded d f ds (suc m)) k) [
          | None ↦ λ g. unfolded-past (suc n) k g ∙ sym (unfolded-past (suc m) k g)
          | Some x ↦ λ g.
              unfolded-at n k x g
              ∙ alike (at_or d (unfolded d f ds n)) (at_or d (unfolded d f ds m)) x (λ j nx. unfolded-stable n m j (omega (arith, h, falls k j x g nx)) (omega (arith, i, falls k j x g nx)))
              ∙ sym (unfolded-at m k x g)
        ] refl
