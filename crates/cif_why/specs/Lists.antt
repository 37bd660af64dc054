-- Reasons of elements by their numbers.
use Rattle.std.specs.Prelude.{ℕ, ◌+◌, Bool, List, [], ◌∷◌, ◌++◌}
use Rattle.cif_why_model.specs.Reasons.{Reason, reason_if}

-- the reasons of the elements that pass, where the first has the number i
abbrev pub each_from : {A : Type 0} → (ℕ → Reason) → (ℕ → A → Bool) → ℕ → List A → List Reason
each_from reason p i [] = []
each_from reason p i (x ∷ xs) = reason_if (p i x) (reason i) ++ each_from reason p (i + 1) xs
