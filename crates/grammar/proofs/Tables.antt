-- A word is found in a table among the words of its length.
use Rattle.std.proofs.Common.{◌≡◌, ◌≢◌, ◌==◌, ◌||◌, ℕ, Bool, not, true, false, if◌then◌else◌, List, [], ◌∷◌, length, refl, ap, ◌∙◌, arith}
use Rattle.std.proofs.lemmas.Bool.Decides.{nat_tests}
use Rattle.grammar.specs.Pieces.{Text}

-- what is made of the first entry whose text is the same as a word, and something else where there is none
abbrev pub look : {A R : Type 0} → (Text → Text → Bool) → (A → R) → List (Text × A) → Text → R → R
look equal make [] w other = other
look equal make (e ∷ es) w other = if equal e.0 w then make e.1 else look equal make es w other

-- the entries whose number of bytes passes a test
abbrev pub having : {A : Type 0} → (ℕ → Bool) → List (Text × A) → List (Text × A)
having p [] = []
having p (e ∷ es) = if p (length e.0) then e ∷ having p es else having p es

module _ {A R : Type 0} (equal : Text → Text → Bool) (lengths : (a b : Text) → equal a b ≡ true → length a ≡ length b) (make : A → R) (p : ℕ → Bool) where
  step : (e : Text × A) (es : List (Text × A)) (w : Text) (other : R) (x y : Bool) → p (length e.0) ≡ x → equal e.0 w ≡ y → p (length w) ≡ true
      → look equal make (having p es) w other ≡ look equal make es w other → look equal make (having p (e ∷ es)) w other ≡ look equal make (e ∷ es) w other
  step e es w other true true is was h ih = rw (is, was) refl
  step e es w other true false is was h ih = rw (is, was) ih
  step e es w other false true is was h ih = absurd (let len : p (length e.0) ≡ true = ap p (lengths e.0 w was) ∙ h in cc)
  step e es w other false false is was h ih = rw (is, was) ih

  pub found_having : (table : List (Text × A)) (w : Text) (other : R) → p (length w) ≡ true → look equal make (having p table) w other ≡ look equal make table w other
  found_having [] w other h = refl
  found_having (e ∷ es) w other h = step e es w other (p (length e.0)) (equal e.0 w) refl refl h (found_having es w other h)

-- a length that no table of one length has
abbrev pub is_other : ℕ → Bool
is_other n = not (n == 2 || n == 3 || n == 4 || n == 5 || n == 6)

pub other_length : (n : ℕ) → n ≢ 2 → n ≢ 3 → n ≢ 4 → n ≢ 5 → n ≢ 6 → is_other n ≡ true
other_length n a b c d e = grind (arith, nat_tests)
