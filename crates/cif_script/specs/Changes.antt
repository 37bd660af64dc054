-- What is told of one place or value, of which the old one and the new one may be missing.
use Rattle.std.specs.Prelude.{ℕ, Bool, List, [], ◌++◌, Option, Some, None, codes, slice_get, if◌then◌else◌}
use Rattle.grammar.specs.Pieces.{Text}

-- where both are there, and are not the same
abbrev pub change_of : {N A : Type 0} → (A → A → Bool) → (N × A → Text) → N → Option A → Option A → Text
change_of same tell n None new = []
change_of same tell n (Some old) None = []
change_of same tell n (Some old) (Some new) = if same old new then [] else codes " " ++ tell (n, new)

abbrev pub change_named : {N A : Type 0} → (A → A → Bool) → (N × A → Text) → Option N → Option A → Option A → Text
change_named same tell None old new = []
change_named same tell (Some n) old new = change_of same tell n old new

-- what is told of number k
abbrev pub change_at : {N A : Type 0} → (A → A → Bool) → (N × A → Text) → List N → (olds news : List A) → ℕ → Text
change_at same tell names olds news k = change_named same tell (slice_get names k) (slice_get olds k) (slice_get news k)
