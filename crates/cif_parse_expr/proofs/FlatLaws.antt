-- One list more behind lists as one list.
use Rattle.std.proofs.Common.{◌≡◌, List, [], ◌∷◌, ◌++◌, sym, ap, ◌∙◌, append_assoc, append-nil}
use Rattle.grammar.specs.Lang.{flat}

pub flat_last : {A : Type 0} (xs : List (List A)) (y : List A) → flat (xs ++ y ∷ []) ≡ flat xs ++ y
flat_last [] y = append-nil y
flat_last (x ∷ xs) y = ap (λ u. x ++ u) (flat_last xs y) ∙ sym (append_assoc x (flat xs) y)
