-- The words of `batch`.
use Rattle.std.specs.Prelude.{◌≡◌, List, [], ◌∷◌, codes}
use Rattle.grammar.specs.Pieces.{Text}

-- what `batch` is asked for: the files of the program and of the cases
pub record Batch : Type 0 where
  pub st : Text
  pub cases : Text

-- `batch ST CASES`. ST and CASES are any words that aren't empty.
abbrev pub IsBatch : List Text → Batch → Type 0
IsBatch [] b = ⊥
IsBatch (w ∷ []) b = ⊥
IsBatch (w ∷ s ∷ []) b = ⊥
IsBatch (w ∷ s ∷ t ∷ []) b = (w ≡ codes "batch") × (s ≡ [] → ⊥) × (t ≡ [] → ⊥) × (b.st ≡ s) × (b.cases ≡ t)
IsBatch (w ∷ s ∷ t ∷ x ∷ ws) b = ⊥
