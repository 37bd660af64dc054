-- The words of `check`.
use Rattle.std.specs.Prelude.{◌≡◌, List, [], ◌∷◌, codes}
use Rattle.grammar.specs.Pieces.{Text}

-- what `check` is asked for: the file
pub record Check : Type 0 where
  pub file : Text

-- `check FILE`. FILE is any word that isn't empty.
abbrev pub IsCheck : List Text → Check → Type 0
IsCheck [] k = ⊥
IsCheck (w ∷ []) k = ⊥
IsCheck (w ∷ f ∷ []) k = (w ≡ codes "check") × (f ≡ [] → ⊥) × (k.file ≡ f)
IsCheck (w ∷ f ∷ x ∷ ws) k = ⊥
