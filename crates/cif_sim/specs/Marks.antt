-- Marks by number, and the marks of their groups.
use Rattle.std.specs.Prelude.{◌≡◌, ℕ, ◌/◌, Bool, true, false, nat_lt, List, [], ◌∷◌, length, replicate, cond, Some, slice_get, slice_set, slice_index_or}

-- past the end a mark is off
abbrev pub is_on : List Bool → ℕ → Bool
is_on marks k = slice_index_or marks k false

-- a group whose mark is off has no mark that is on
abbrev pub AreGrouped : (marks groups : List Bool) → Type 0
AreGrouped marks groups = (k : ℕ) → slice_get groups (k / 256) ≡ Some false → is_on marks k ≡ false

pub record AreMarks (count : ℕ) (marks groups : List Bool) : Type 0 where
  pub counted : count ≡ length marks
  pub grouped : AreGrouped marks groups

-- a number is marked, or each where it is past the end
unfoldable pub woken_one : ℕ → List Bool → List Bool
woken_one k marks = cond (nat_lt k (length marks)) (slice_set marks k true) (replicate (length marks) true)

-- these are marked, one after the other
abbrev pub woken : List ℕ → List Bool → List Bool
woken [] marks = marks
woken (k ∷ ks) marks = woken ks (woken_one k marks)
