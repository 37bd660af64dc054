-- The keys of a set as their texts.
use Rattle.std.proofs.Common.{◌≡◌, ℕ, ◌+◌, Bool, true, false, cond, not, List, [], ◌∷◌, ◌++◌, refl, ap, ◌∙◌}
use Rattle.std.specs.Prelude.{map, nat_eq, position}
use Rattle.std.specs.List.{list_any, position_or_len}
use Rattle.std.specs.Cmp.Lexicographic.{pointwise}
use Rattle.std.proofs.lemmas.List.{length-map, map-append}

module _ {K : Type 0} (text : K → List ℕ) where
  pub among_is : (x : List ℕ) (ks : List K) → list_any (λ k. pointwise nat_eq x (text k)) ks ≡ list_any (λ j. pointwise nat_eq x j) (map text ks)
  among_is x [] = refl
  among_is x (k ∷ ks) = rw (among_is x ks) refl

  -- a set with one more key
  pub keys_after : (ks : List K) (k : K) (n : List K) → n ≡ cond (list_any (λ j. pointwise nat_eq (text k) (text j)) ks) ks (ks ++ k ∷ [])
      → map text n ≡ cond (list_any (λ j. pointwise nat_eq (text k) j) (map text ks)) (map text ks) (map text ks ++ text k ∷ [])
  keys_after ks k n e =
      ap (λ (m : List K). map text m) e ∙ go (list_any (λ j. pointwise nat_eq (text k) (text j)) ks)
      ∙ ap (λ b. cond b (map text ks) (map text ks ++ text k ∷ [])) (among_is (text k) ks)
    where
      go : (b : Bool) → map text (cond b ks (ks ++ k ∷ [])) ≡ cond b (map text ks) (map text ks ++ text k ∷ [])
      go true = refl
      go false = map-append text ks (k ∷ [])

  number_is : (x : List ℕ) (ks : List K) → position_or_len (λ k. pointwise nat_eq x (text k)) ks ≡ position_or_len (λ j. pointwise nat_eq x j) (map text ks)
  number_is x [] = refl
  number_is x (k ∷ ks) = ap (λ n. cond (not (pointwise nat_eq x (text k))) (1 + n) 0) (number_is x ks)

  pub found_is : (x : List ℕ) (ks : List K) → position (λ k. pointwise nat_eq x (text k)) ks ≡ position (λ j. pointwise nat_eq x j) (map text ks)
  found_is x ks = rw (number_is x ks, length-map ks text) refl
