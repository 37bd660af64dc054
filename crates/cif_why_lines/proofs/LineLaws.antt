-- What stands in a line behind its first word.
use Rattle.std.proofs.Common.{◌≡◌, ℕ, zero, suc, true, false, List, [], ◌∷◌, length, map, arith, Bor, Option, None, Some, refl, sym, ap, ◌∙◌}
use Rattle.std.specs.Prelude.{◌==◌, codes, option_map, slice_get, unwrap_or}
use Rattle.std.specs.Option.{option_copied}
use Rattle.std.proofs.lemmas.Bool.{eqb-true}
use Rattle.grammar.specs.Pieces.{Text}
use Rattle.cif_net_expr.specs.View.{view}
use Rattle.cif_net_model.specs.Exprs.{expr_at}
use Rattle.cif_net_model.specs.Net.{Net, NetExclusion, NetInvariant}
use Rattle.cif_net.specs.Parts.{auto_tree, exclusion_tree, invariant_tree}
use Rattle.cif_net.specs.declared.automata.Auto.{Auto}
use Rattle.cif_net.specs.declared.predicates.Exclusion.{Exclusion}
use Rattle.cif_net.specs.declared.predicates.Invariant.{Invariant}
use Rattle.cif_why_model.specs.Lines.{place_told, reasons_text}
use Rattle.cif_why_model.specs.Told.{Told}
use Rattle.cif_why.specs.View.{reason_tree}
use Rattle.cif_why.specs.declared.reason.Reason.{Reason}
use Rattle.cif_why_lines.specs.Lines.{lines_of, place_shown}
use Rattle.cif_why_lines.proofs.TargetLaws.{automaton_told}

module _ {L M : Type 0} (f : L → M) (path : M → Text) where
  path-of : (xs : List L) (k : ℕ) → unwrap_or (option_map path (slice_get (map f xs) k)) [] ≡ unwrap_or (option_map (λ x. path (f x)) (slice_get xs k)) []
  path-of [] zero = refl
  path-of [] (suc k) = refl
  path-of (x ∷ xs) zero = refl
  path-of (x ∷ xs) (suc k) = path-of xs k

  pub path-at : (xs : List L) (k : ℕ) (x : L) → Some x ≡ slice_get xs k → path (f x) ≡ unwrap_or (option_map path (slice_get (map f xs) k)) []
  path-at xs k x h = ap (λ o. unwrap_or (option_map (λ y. path (f y)) o) []) h ∙ sym (path-of xs k)

  pub no-path : (xs : List L) (k : ℕ) → None ≡ slice_get xs k → [] ≡ unwrap_or (option_map path (slice_get (map f xs) k)) []
  no-path xs k h = ap (λ o. unwrap_or (option_map (λ y. path (f y)) o) []) h ∙ sym (path-of xs k)

-- what `get` found none of
pub nothing_there : {A : Type 0} (o : Option (Bor A)) (r : Option A) → ((x : Bor A) → o ≡ Some x → ⊥) → option_copied o ≡ r → None ≡ r
nothing_there None r h e = e
nothing_there (Some x) r h e = absurd (h x refl)

-- ---- what the net shows by its numbers

abbrev pub path_shown : Option Auto → Text
path_shown None = []
path_shown (Some a) = a.path

module _ (n : Net) where
  autos-shown : (xs : List Auto) (k : ℕ) → path_shown (slice_get xs k) ≡ elim (slice_get (map (automaton_told n) (map auto_tree xs)) k) [ None ↦ [] | Some y ↦ y.path ]
  autos-shown [] zero = refl
  autos-shown [] (suc k) = refl
  autos-shown (x ∷ xs) zero = refl
  autos-shown (x ∷ xs) (suc k) = autos-shown xs k

  pub auto-shown : (xs : List Auto) (k : ℕ) (a : Auto) → Some a ≡ slice_get xs k → a.path ≡ elim (slice_get (map (automaton_told n) (map auto_tree xs)) k) [ None ↦ [] | Some y ↦ y.path ]
  auto-shown xs k a h = ap path_shown h ∙ autos-shown xs k

  pub no-auto-shown : (xs : List Auto) (k : ℕ) → None ≡ slice_get xs k → path_shown None ≡ elim (slice_get (map (automaton_told n) (map auto_tree xs)) k) [ None ↦ [] | Some y ↦ y.path ]
  no-auto-shown xs k h = ap path_shown h ∙ autos-shown xs k

module _ {L M : Type 0} (f : L → M) (at : M → ℕ) where
  place-shown : (xs : List L) (k : ℕ) → place_shown (option_map (λ x. at (f x)) (slice_get xs k)) ≡ place_told (map at (map f xs)) k
  place-shown [] zero = refl
  place-shown [] (suc k) = refl
  place-shown (x ∷ xs) zero = refl
  place-shown (x ∷ xs) (suc k) = place-shown xs k

pub exclusion-shown : (xs ys : List Exclusion) (k : ℕ) (o : Option ℕ) → ys ≡ xs → o ≡ option_map (λ (x : Exclusion). expr_at (view x.pred)) (slice_get ys k)
    → place_shown o ≡ place_told (map (λ (x : NetExclusion). expr_at x.pred) (map exclusion_tree xs)) k
exclusion-shown xs ys k o same is =
    ap place_shown (is ∙ ap (λ zs. option_map (λ (x : Exclusion). expr_at (view x.pred)) (slice_get zs k)) same) ∙ place-shown exclusion_tree (λ (x : NetExclusion). expr_at x.pred) xs k

pub invariant-shown : (xs ys : List Invariant) (k : ℕ) (o : Option ℕ) → ys ≡ xs → o ≡ option_map (λ (i : Invariant). i.at) (slice_get ys k)
    → place_shown o ≡ place_told (map (λ (i : NetInvariant). i.at) (map invariant_tree xs)) k
invariant-shown xs ys k o same is =
    ap place_shown (is ∙ ap (λ zs. option_map (λ (i : Invariant). i.at) (slice_get zs k)) same) ∙ place-shown invariant_tree (λ (i : NetInvariant). i.at) xs k

-- ---- lines

pub no-line : (t : Told) (rs : List Reason) → (length rs == 0) ≡ true → codes "enabled\n" ≡ reasons_text t (map reason_tree rs)
no-line t [] h = refl
no-line t (r ∷ rs) h = let none : length (r ∷ rs) ≡ 0 = eqb-true (length (r ∷ rs)) 0 h in absurd (omega arith)

pub some-lines : (t : Told) (rs : List Reason) → (length rs == 0) ≡ false → lines_of t (map reason_tree rs) ≡ reasons_text t (map reason_tree rs)
some-lines t [] h = absurd cc
some-lines t (r ∷ rs) h = refl
