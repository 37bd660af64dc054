-- A line ends with the shorter of the outputs and the values.
use Rattle.std.proofs.Common.{◌≡◌, ℕ, ℤ, List, [], ◌∷◌, length, drop, map, min, Bor, refl, ap, ◌∙◌, arith}
use Rattle.std.proofs.lemmas.List.{drop_all}
use native.Mathlib.Decide.{dec_lt}
use Rattle.st_ast.specs.declared.tree.StVar.{StVar}
use Rattle.plc_rows.specs.Table.{cells_text}

no_cells : (vs : List StVar) → cells_text vs [] ≡ []
no_cells [] = refl
no_cells (v ∷ vs) = refl

pub cells_end : (vs : List (Bor StVar)) (zs : List ℤ) (n : ℕ) → n ≡ min (length vs) (length zs) → cells_text (map (λ v. v.now) (drop n vs)) (drop n zs) ≡ []
cells_end vs zs n e =
    elim (dec_lt n (length vs)) [
      | yes l ↦ ap (cells_text (map (λ v. v.now) (drop n vs))) (drop_all n zs (omega arith)) ∙ no_cells (map (λ v. v.now) (drop n vs))
      | no l ↦ ap (λ us. cells_text (map (λ (v : Bor StVar). v.now) us) (drop n zs)) (drop_all n vs (omega arith))
    ]
