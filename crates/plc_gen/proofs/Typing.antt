-- The types of the own variables of state invariants, one after the other.
use Rattle.std.proofs.Common.{◌≡◌, ℕ, ◌+◌, ◌<◌, ◌≤◌, List, ◌++◌, length, get_or, drop, Option, Some, sym, ap, ◌∙◌}
use Rattle.std.proofs.lemmas.List.{append-nil, append_assoc}
use Rattle.cif_base.specs.declared.types.Ty.{Ty}
use Rattle.cif_net_expr.specs.Tree.{NetExpr}
use Rattle.cif_net_model.specs.Listing.{exprs_of}
use Rattle.cif_net_model.specs.Net.{Net}
use Rattle.st_ast.specs.declared.tree.StTy.{StTy}
use Rattle.plc_expr.specs.Sorts.{list_types, own_types}
use Rattle.plc_event_model.specs.Keeps.{invariants_at}
use Rattle.plc_event.specs.Changed.{predicate_at}
use Rattle.plc_event.proofs.Holding.{invariant-head, no-invariant-left}

module _ (n : Net) (numbers : List ℕ) (i x : ℕ) (e : NetExpr) (within : i < length numbers) (item : x ≡ get_or numbers i x) (there : predicate_at n x ≡ Some e) where
  pub invariant-types : (r : Option Ty) (old new : List StTy) → new ≡ old ++ own_types n r e
      → new ++ list_types n r (exprs_of (invariants_at n (drop (i + 1) numbers))) ≡ old ++ list_types n r (exprs_of (invariants_at n (drop i numbers)))
  invariant-types r old new new_is =
      ap (λ ts. ts ++ list_types n r (exprs_of (invariants_at n (drop (i + 1) numbers)))) new_is
      ∙ append_assoc old (own_types n r e) (list_types n r (exprs_of (invariants_at n (drop (i + 1) numbers))))
      ∙ ap (λ es. old ++ list_types n r (exprs_of es)) (sym (invariant-head n numbers i x e within item there))

pub types-done : (n : Net) (numbers : List ℕ) (i : ℕ) → length numbers ≤ i → (r : Option Ty) (old : List StTy) → old ++ list_types n r (exprs_of (invariants_at n (drop i numbers))) ≡ old
types-done n numbers i past r old = ap (λ es. old ++ list_types n r (exprs_of es)) (no-invariant-left n numbers i past) ∙ append-nil old
