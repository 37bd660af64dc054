-- The words of a command line as texts, where they are few.
use Rattle.std.proofs.Common.{◌≡◌, ◌<◌, ◌≤◌, List, [], ◌∷◌, length, ◌-◌, take_all, map, arith}
use Rattle.std.proofs.Math.ListN.{drop, get_or, take}
use Rattle.grammar.specs.Pieces.{Text}

module _ {A : Type 0} (f : A → Text) where
  -- the items of a short list, as texts
  pub two_texts : (xs : List A) (a b : A) (s t : Text) → a ≡ get_or xs 0 a → b ≡ get_or xs 1 b → s ≡ f a → t ≡ f b
      → 2 ≤ length xs → length xs < 3 → map f xs ≡ s ∷ t ∷ []
  two_texts [] a b s t e0 e1 u0 u1 long short = absurd (omega arith)
  two_texts (x ∷ []) a b s t e0 e1 u0 u1 long short = absurd (omega arith)
  two_texts (x ∷ y ∷ []) a b s t e0 e1 u0 u1 long short = cc
  two_texts (x ∷ y ∷ z ∷ xs) a b s t e0 e1 u0 u1 long short = absurd (omega arith)

  pub three_texts : (xs : List A) (a b c : A) (s t u : Text) → a ≡ get_or xs 0 a → b ≡ get_or xs 1 b → c ≡ get_or xs 2 c
      → s ≡ f a → t ≡ f b → u ≡ f c → 3 ≤ length xs → length xs < 4 → map f xs ≡ s ∷ t ∷ u ∷ []
  three_texts [] a b c s t u e0 e1 e2 u0 u1 u2 long short = absurd (omega arith)
  three_texts (x ∷ []) a b c s t u e0 e1 e2 u0 u1 u2 long short = absurd (omega arith)
  three_texts (x ∷ y ∷ []) a b c s t u e0 e1 e2 u0 u1 u2 long short = absurd (omega arith)
  three_texts (x ∷ y ∷ z ∷ []) a b c s t u e0 e1 e2 u0 u1 u2 long short = cc
  three_texts (x ∷ y ∷ z ∷ w ∷ xs) a b c s t u e0 e1 e2 u0 u1 u2 long short = absurd (omega arith)

  pub four_texts : (xs : List A) (a b c d : A) (s t u v : Text) → a ≡ get_or xs 0 a → b ≡ get_or xs 1 b → c ≡ get_or xs 2 c
      → d ≡ get_or xs 3 d → s ≡ f a → t ≡ f b → u ≡ f c → v ≡ f d → 4 ≤ length xs → length xs < 5 → map f xs ≡ s ∷ t ∷ u ∷ v ∷ []
  four_texts [] a b c d s t u v e0 e1 e2 e3 u0 u1 u2 u3 long short = absurd (omega arith)
  four_texts (x ∷ []) a b c d s t u v e0 e1 e2 e3 u0 u1 u2 u3 long short = absurd (omega arith)
  four_texts (x ∷ y ∷ []) a b c d s t u v e0 e1 e2 e3 u0 u1 u2 u3 long short = absurd (omega arith)
  four_texts (x ∷ y ∷ z ∷ []) a b c d s t u v e0 e1 e2 e3 u0 u1 u2 u3 long short = absurd (omega arith)
  four_texts (x ∷ y ∷ z ∷ w ∷ []) a b c d s t u v e0 e1 e2 e3 u0 u1 u2 u3 long short = cc
  four_texts (x ∷ y ∷ z ∷ w ∷ r ∷ xs) a b c d s t u v e0 e1 e2 e3 u0 u1 u2 u3 long short = absurd (omega arith)

  -- the first two items of a list, and the rest
  pub two_and_more : (xs : List A) (a b : A) (s t : Text) → a ≡ get_or xs 0 a → b ≡ get_or xs 1 b → s ≡ f a → t ≡ f b
      → 2 ≤ length xs → map f xs ≡ s ∷ t ∷ map f (take (length xs - 2) (drop 2 xs))
  two_and_more [] a b s t e0 e1 u0 u1 long = absurd (omega arith)
  two_and_more (x ∷ []) a b s t e0 e1 u0 u1 long = absurd (omega arith)
  two_and_more (x ∷ y ∷ xs) a b s t e0 e1 u0 u1 long =
      let q : take (length (x ∷ y ∷ xs) - 2) (drop 2 (x ∷ y ∷ xs)) ≡ xs = take_all (length (x ∷ y ∷ xs) - 2) xs (omega arith) in
      cc
