-- Words on lists, relations and counts that definitions and laws share.
use Rattle.std.specs.Prelude.{◌≡◌, ℕ, suc, ◌<◌, ◌⊎◌, List, [], ◌∷◌}

-- x is an element of the list
abbrev pub Member : {A : Type 0} → A → List A → Type 0
Member x [] = ⊥
Member x (y ∷ ys) = (x ≡ y) ⊎ Member x ys

-- no element stands twice in the list
abbrev pub AreDistinct : {A : Type 0} → List A → Type 0
AreDistinct [] = Unit {0}
AreDistinct (x ∷ xs) = (Member x xs → ⊥) × AreDistinct xs

-- x stands somewhere before y
abbrev pub Before : {A : Type 0} → A → A → List A → Type 0
Before x y [] = ⊥
Before x y (z ∷ zs) = ((x ≡ z) × Member y zs) ⊎ Before x y zs

-- a chain of one step or more
pub data Chain {A : Type 0} (R : A → A → Type 0) : A → A → Type 0 where
  one : {x y : A} → R x y → Chain R x y
  more : {x y z : A} → R x y → Chain R y z → Chain R x z

-- n is past the limit, and the count that is told stops one past it
abbrev pub Exceeds : (limit n count : ℕ) → Type 0
Exceeds limit n count = (limit < n) × (count ≡ suc limit)
