-- Lists that are empty.
use Rattle.std.proofs.Common.{◌≡◌, ℕ, suc, arith, Bool, true, false, ◌↔◌, IsTrue, List, [], ◌∷◌, ◌++◌, length, nat_eq, None, refl, sym, ap, ◌∙◌}
use Rattle.std.proofs.lemmas.Bool.Decides.{nat_tests}
use Rattle.cif_net_expr.specs.Tree.{NetExpr}
use Rattle.cif_net_model.specs.Net.{Net}
use Rattle.st_ast.specs.declared.tree.StTy.{StTy}
use Rattle.plc_expr.specs.Sorts.{own_types}
use Rattle.plc_expr.specs.Texts.{temps}
use Rattle.plc_expr.proofs.Sorting.{types-length}

no-length : (k : ℕ) → nat_eq (suc k) 0 ≡ false
no-length k = grind (arith, nat_tests)

none-there : {A : Type 0} (xs : List A) (b : Bool) → (IsTrue b ↔ (xs ≡ [])) → b ≡ nat_eq (length xs) 0
none-there [] true h = refl
none-there [] false h = let t : IsTrue false = h.1 refl in absurd cc
none-there (x ∷ xs) true h = let e : x ∷ xs ≡ [] = h.0 refl in absurd cc
none-there (x ∷ xs) false h = sym (no-length (length xs))

pub none_found : (xs : List ℕ) (k : ℕ) (b : Bool) → length xs ≡ k → (IsTrue b ↔ (xs ≡ [])) → b ≡ nat_eq k 0
none_found xs k b same h = none-there xs b h ∙ ap (λ j. nat_eq j 0) same

pub no_types : (n : Net) (e : NetExpr) (ts : List StTy) (b : Bool) → ts ≡ [] ++ own_types n None e → (IsTrue b ↔ (ts ≡ [])) → b ≡ nat_eq (temps e) 0
no_types n e ts b is h = none-there ts b h ∙ ap (λ (us : List StTy). nat_eq (length us) 0) is ∙ ap (λ k. nat_eq k 0) (types-length n None e)
