-- What a line says by the number of its parts.
use Rattle.std.proofs.Common.{◌≡◌, ◌==◌, ℕ, ◌+◌, Bool, true, false, List, [], ◌∷◌, length, Option, Some, None, refl, sym, ap, ◌∙◌, arith, Bor}
use Rattle.std.specs.Prelude.{codes, is_some, nat_eq, option_and_then, option_map, if◌then◌else◌}
use Rattle.std.specs.Cmp.Lexicographic.{pointwise}
use Rattle.std.proofs.lemmas.List.Splits.{length-slice_split}
use Rattle.grammar.specs.Pieces.{Text, same}
use Rattle.grammar.proofs.Texts.{same_is}
use Rattle.cif_sim_model.specs.Names.{Names, ValueNames}
use Rattle.cif_sim_model.specs.Script.{idle, fires, number_of, parts_of, said, set_of}
use Rattle.cif_script.specs.Views.{parts_of_rest}

-- a word that is compared with a literal
pub literal_is : (word literal text : Text) (b : Bool) → text ≡ literal → b ≡ pointwise nat_eq word text → same word literal ≡ b
literal_is word literal text b e h = ap (same word) (sym e) ∙ sym (same_is word text) ∙ sym h

not_empty : (x : Text) → (length x == 0) ≡ false → same x [] ≡ false
not_empty [] h = absurd cc
not_empty (b ∷ x) h = refl

nothing_left : (o : Option (Bor Text)) → ((x : Bor Text) → o ≡ Some x → ⊥) → parts_of_rest o ≡ []
nothing_left None h = refl
nothing_left (Some x) h = absurd (h x refl)

module _ (names : Names) (word : Text) where
  -- one part that is not empty
  pub one_part : (o : Option (Bor Text)) → o ≡ None → (length word == 0) ≡ false → None ≡ said names (word ∷ parts_of_rest o)
  one_part o e h = ap (λ b. if b then Some idle else None) (sym (not_empty word h)) ∙ ap (λ r. said names (word ∷ parts_of_rest r)) (sym e)

  -- two parts, of which the first is another word
  pub two_parts : (name : Text) (o : Option (Bor Text)) → ((x : Bor Text) → o ≡ Some x → ⊥) → same word (codes "fire") ≡ false → None ≡ said names (word ∷ name ∷ parts_of_rest o)
  two_parts name o e h =
      ap (λ b. if b then option_map (λ x. fires x.0) (number_of (λ p. p) name names.events) else None) (sym h)
      ∙ ap (λ ps. said names (word ∷ name ∷ ps)) (sym (nothing_left o e))

  -- three parts, of which the first is another word
  pub three_parts : (name value : Text) (o : Option (Bor Text)) → is_some o ≡ false → same word (codes "set") ≡ false → None ≡ said names (word ∷ name ∷ value ∷ parts_of_rest o)
  three_parts name value None e h =
      ap (λ b. if b then option_and_then (set_of value) (number_of (λ (v : ValueNames). v.path) name names.inputs) else None) (sym h)
  three_parts name value (Some x) e h = absurd cc

  -- four parts or more
  pub more_parts : (name value : Text) (o : Option (Bor Text)) → is_some o ≡ true → None ≡ said names (word ∷ name ∷ value ∷ parts_of_rest o)
  more_parts name value None e = absurd cc
  more_parts name value (Some x) e = by _ (parts_of x.now) (length-slice_split (λ b. b == 32) x.now)
    where
      by : (n : ℕ) (ps : List Text) → length ps ≡ n + 1 → None ≡ said names (word ∷ name ∷ value ∷ ps)
      by n [] l = absurd (omega (arith, l))
      by n (p ∷ ps) l = refl
