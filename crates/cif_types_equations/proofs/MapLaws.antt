-- Tallies are kept by their names.
use Rattle.std.proofs.Common.{◌≡◌, Bool, true, false, cond, List, [], ◌∷◌, refl, ap, Some}
use Rattle.std.specs.Prelude.{map, nat_eq}
use Rattle.std.specs.Map.{lookup}
use Rattle.std.specs.Cmp.Lexicographic.{pointwise}
use Rattle.indexmap.specs.IndexMap.{insert_entry}
use Rattle.cif_source.specs.Source.{Text}
use Rattle.cif_types_equations.specs.Tallies.{with_tally}
use Rattle.cif_types_equations.specs.declared.tallies.Tally.{Tally}

module _ {K : Type 0} (text : K → Text) where
  abbrev named : List (K × Tally) → List (Text × Tally)
  named es = map (λ e. (text e.0, e.1)) es

  pub found-is : (x : Text) (es : List (K × Tally)) → lookup (λ k. pointwise nat_eq x (text k)) es ≡ lookup (λ y. pointwise nat_eq x y) (named es)
  found-is x [] = refl
  found-is x (e ∷ es) = ap (λ o. cond (pointwise nat_eq x (text e.0)) (Some e.1) o) (found-is x es)

  pub put-is : (k : K) (t : Tally) (es : List (K × Tally)) → named (insert_entry (λ i j. pointwise nat_eq (text i) (text j)) es k t) ≡ with_tally (named es) (text k) t
  put-is k t [] = refl
  put-is k t (e ∷ es) = go (pointwise nat_eq (text k) (text e.0)) (put-is k t es)
    where
      go : (b : Bool) → named (insert_entry (λ i j. pointwise nat_eq (text i) (text j)) es k t) ≡ with_tally (named es) (text k) t
          → named (cond b ((e.0, t) ∷ es) (e ∷ insert_entry (λ i j. pointwise nat_eq (text i) (text j)) es k t)) ≡ cond b ((text e.0, t) ∷ named es) ((text e.0, e.1) ∷ with_tally (named es) (text k) t)
      go true h = refl
      go false h = ap (λ r. (text e.0, e.1) ∷ r) h
