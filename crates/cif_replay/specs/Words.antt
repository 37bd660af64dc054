-- The words of `replay`.
use Rattle.std.specs.Prelude.{◌≡◌, List, [], ◌∷◌, codes}
use Rattle.grammar.specs.Pieces.{Text}

-- what `replay` is asked for: the files of the program and of the rows
pub record Replay : Type 0 where
  pub st : Text
  pub rows : Text

-- `replay ST ROWS`. ST and ROWS are any words that aren't empty.
abbrev pub IsReplay : List Text → Replay → Type 0
IsReplay [] r = ⊥
IsReplay (w ∷ []) r = ⊥
IsReplay (w ∷ s ∷ []) r = ⊥
IsReplay (w ∷ s ∷ t ∷ []) r = (w ≡ codes "replay") × (s ≡ [] → ⊥) × (t ≡ [] → ⊥) × (r.st ≡ s) × (r.rows ≡ t)
IsReplay (w ∷ s ∷ t ∷ x ∷ ws) r = ⊥
