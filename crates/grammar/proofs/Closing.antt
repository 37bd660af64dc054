-- The text after a first pair of bytes.
use Rattle.std.proofs.Common.{◌≡◌, ◌==◌, ◌&&◌, ℕ, Bool, true, false, if◌then◌else◌, [], ◌∷◌, ◌++◌, Option, Some, None, refl, sym, ap, ◌∙◌, eq-eqb}
use Rattle.grammar.specs.Pieces.{Text, close_at, longer_by, rest_after}
use Rattle.grammar.proofs.Texts.{and_left, and_right, from_test}

abbrev pub rest_of : Option (Text × Text) → Option Text
rest_of None = None
rest_of (Some p) = Some p.1

rest_longer : (c : ℕ) (o : Option (Text × Text)) → rest_of (longer_by c o) ≡ rest_of o
rest_longer c None = refl
rest_longer c (Some p) = refl

module _ (a b : ℕ) where
  close_step : (c d : ℕ) (text : Text) (x : Bool) → rest_after a b (d ∷ text) ≡ rest_of (close_at a b (d ∷ text))
      → (if x then Some text else rest_after a b (d ∷ text)) ≡ rest_of (if x then Some (c ∷ d ∷ [], text) else longer_by c (close_at a b (d ∷ text)))
  close_step c d text true ih = refl
  close_step c d text false ih = ih ∙ sym (rest_longer c (close_at a b (d ∷ text)))

  -- it is what is left behind what the pair closes
  pub close_is : (text : Text) → rest_after a b text ≡ rest_of (close_at a b text)
  unfolding rest_after
  close_is [] = refl
  close_is (c ∷ []) = refl
  close_is (c ∷ d ∷ text) = close_step c d text (c == a && d == b) (close_is (d ∷ text))

  pair_is : (c d : ℕ) → (c == a && d == b) ≡ true → (c ≡ a) × (d ≡ b)
  pair_is c d e = (sym (from_test c a (and_left (c == a) (d == b) e)), sym (from_test d b (and_right (c == a) (d == b) e)))

  -- where the pair isn't found there is none
  pub none_closes : (text inner after : Text) → rest_after a b text ≡ None → text ≡ inner ++ (a ∷ b ∷ after) → ⊥
  unfolding rest_after
  none_closes text [] after e g = let h : rest_after a b text ≡ rest_after a b (a ∷ b ∷ after) = ap (rest_after a b) g in absurd (first (a == a) (b == b) (eq-eqb a a refl) (eq-eqb b b refl) (sym h ∙ e))
    where
      first : (x y : Bool) → x ≡ true → y ≡ true → (if x && y then Some after else rest_after a b (b ∷ after)) ≡ None → ⊥
      first true true is js n = cc
      first true false is js n = absurd cc
      first false y is js n = absurd cc
  none_closes [] (c ∷ inner) after e g = cc
  none_closes (c ∷ []) (d ∷ []) after e g = cc
  none_closes (c ∷ []) (d ∷ f ∷ inner) after e g = cc
  none_closes (c ∷ d ∷ text) (f ∷ inner) after e g = go (c == a && d == b) refl (λ h. none_closes (d ∷ text) inner after h (let tail : d ∷ text ≡ inner ++ (a ∷ b ∷ after) = cc in tail))
    where
      go : (x : Bool) → (c == a && d == b) ≡ x → (rest_after a b (d ∷ text) ≡ None → ⊥) → ⊥
      go true is ih = let h : rest_after a b (c ∷ d ∷ text) ≡ Some text = rw is refl in cc
      go false is ih = ih (let h : rest_after a b (c ∷ d ∷ text) ≡ rest_after a b (d ∷ text) = rw is refl in sym h ∙ e)

  -- where it is found it is there
  pub some_closes : (text rest : Text) → rest_after a b text ≡ Some rest → (inner : Text) × (text ≡ inner ++ (a ∷ b ∷ rest))
  unfolding rest_after
  some_closes [] rest e = absurd cc
  some_closes (c ∷ []) rest e = absurd cc
  some_closes (c ∷ d ∷ text) rest e = go (c == a && d == b) refl (λ h. some_closes (d ∷ text) rest h)
    where
      go : (x : Bool) → (c == a && d == b) ≡ x → (rest_after a b (d ∷ text) ≡ Some rest → (inner : Text) × (d ∷ text ≡ inner ++ (a ∷ b ∷ rest))) → (inner : Text) × (c ∷ d ∷ text ≡ inner ++ (a ∷ b ∷ rest))
      go true is ih =
          let m = pair_is c d is in
          let first : c ≡ a = m.0 in
          let second : d ≡ b = m.1 in
          let h : rest_after a b (c ∷ d ∷ text) ≡ Some text = rw is refl in
          let same : text ≡ rest = cc in
          ([], cc)
      go false is ih =
          let h : rest_after a b (c ∷ d ∷ text) ≡ rest_after a b (d ∷ text) = rw is refl in
          let m = ih (sym h ∙ e) in
          (c ∷ m.0, ap (λ (u : Text). c ∷ u) m.1)

  pub unclosed : (text : Text) → ((inner after : Text) → text ≡ inner ++ (a ∷ b ∷ after) → ⊥) → rest_after a b text ≡ None
  unclosed text none = go (rest_after a b text) refl
    where
      go : (o : Option Text) → rest_after a b text ≡ o → o ≡ None
      go None is = refl
      go (Some rest) is = absurd (let m = some_closes text rest is in none m.0 rest m.1)
