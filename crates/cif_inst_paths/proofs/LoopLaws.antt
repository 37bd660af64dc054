-- One of those that a loop goes over.
use Rattle.std.proofs.Common.{◌≡◌, ℕ, ◌<◌, List, [], ◌∷◌, ◌++◌, ◌+◌, length, map, drop, get_or, append_assoc, sym, ap, ◌∙◌}
use Rattle.cif_system.specs.Words.{Member}
use Rattle.cif_system.proofs.Picks.{map-member}
use Rattle.cif_scope.proofs.Places.{drop-item}
use Rattle.cif_inst_paths.proofs.SoundLaws.{item-listed}

module _ {A T : Type 0} (tree : A → T) (found : List A) (i : ℕ) (x : A) (below : i < length found) (is : x ≡ get_or found i x) where
  pub listed_at : Member (tree x) (map tree found)
  listed_at = map-member tree x found (item-listed found i x below is)

  -- one more of them, each of which is made into something
  pub made_more : {B : Type 0} (make : T → B) (before after all : List B) → after ≡ before ++ make (tree x) ∷ [] → before ++ map make (map tree (drop i found)) ≡ all → after ++ map make (map tree (drop (i + 1) found)) ≡ all
  made_more make before after all added h =
      ap (λ ys. ys ++ map make (map tree (drop (i + 1) found))) added
      ∙ append_assoc before (make (tree x) ∷ []) (map make (map tree (drop (i + 1) found)))
      ∙ ap (λ ds. before ++ map make (map tree ds)) (sym (drop-item found i x below is))
      ∙ h
