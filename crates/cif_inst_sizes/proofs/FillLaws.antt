-- The measures of definitions while they are filled in.
use Rattle.std.proofs.Common.{◌≡◌, ◌≢◌, ℕ, zero, suc, ◌⊎◌, inl, inr, List, [], ◌∷◌, replicate, Option, Some, None, refl, sym, ◌∙◌, ap}
use Rattle.std.specs.Prelude.{slice_get, slice_set}
use Rattle.cif_system.proofs.Lists.{some-same, none-some}
use Rattle.cif_net_model.specs.Counts as counts
use Rattle.cif_alg_measure.specs.declared.measures.Measure.{Measure}
use Rattle.cif_source.specs.Source.{Source}
use Rattle.cif_inst_names.specs.Looking.{source_for}
use Rattle.cif_inst_names.specs.declared.looking.Looking.{Looking}
use Rattle.cif_inst_sizes.specs.Definitions.{DefinitionTree, definition_measure}
use Rattle.cif_inst_sizes.specs.Weights.{alg_by, AreWeighed, IsWeighed}
use Rattle.cif_inst_sizes.specs.declared.weights.Weights.{Weights}

set-at : {A : Type 0} (xs : List A) (k : ℕ) (x y : A) → slice_get (slice_set xs k x) k ≡ Some y → x ≡ y
set-at [] k x y h = absurd (none-some y h)
set-at (z ∷ xs) zero x y h = some-same x y h
set-at (z ∷ xs) (suc k) x y h = set-at xs k x y h

set-other : {A : Type 0} (xs : List A) (k j : ℕ) (x : A) → j ≢ k → slice_get (slice_set xs k x) j ≡ slice_get xs j
set-other [] k j x h = refl
set-other (y ∷ xs) zero zero x h = absurd (h refl)
set-other (y ∷ xs) zero (suc j) x h = refl
set-other (y ∷ xs) (suc k) zero x h = refl
set-other (y ∷ xs) (suc k) (suc j) x h = set-other xs k j x (λ e. h (ap suc e))

same-or-other : (x y : ℕ) → (x ≡ y) ⊎ (x ≢ y)
same-or-other zero zero = inl refl
same-or-other zero (suc y) = inr (λ e. cc)
same-or-other (suc x) zero = inr (λ e. cc)
same-or-other (suc x) (suc y) = elim (same-or-other x y) [ inl e ↦ inl (ap suc e) | inr n ↦ inr (λ e. n cc) ]

none-there : (count n : ℕ) (m : Measure) → slice_get (replicate count None) n ≡ Some (Some m) → ⊥
none-there zero n m h = none-some (Some m) h
none-there (suc count) zero m h = none-some m (some-same None (Some m) h)
none-there (suc count) (suc n) m h = none-there count n m h

module _ (t : Source) (alg : ℕ → counts.Measure) (all : List DefinitionTree) where
  pub none-weighed : (table : List (Option Measure)) (count : ℕ) → table ≡ replicate count None → AreWeighed t alg all table
  none-weighed table count none n d m at there = absurd (none-there count n m (ap (λ xs. slice_get xs n) (sym none) ∙ there))

  pub put-weighed : (table : List (Option Measure)) (k : ℕ) (d : DefinitionTree) (m : Measure) → AreWeighed t alg all table → slice_get all k ≡ Some d → m ≡ definition_measure alg t d → AreWeighed t alg all (slice_set table k (Some m))
  put-weighed table k d m old at is n e x h there =
      elim (same-or-other n k) [
        | inl q ↦
            let e' : d ≡ e = some-same d e (sym at ∙ ap (slice_get all) (sym q) ∙ h) in
            let x' : Some m ≡ Some x = set-at table k (Some m) (Some x) (ap (slice_get (slice_set table k (Some m))) (sym q) ∙ there) in
            sym (some-same m x x') ∙ is ∙ ap (definition_measure alg t) e'
        | inr q ↦ old n e x h (sym (set-other table k n (Some m) q) ∙ there)
      ]

pub table-weighed : (l : Looking) (all : List DefinitionTree) (w : Weights) (table : List (Option Measure)) (k : ℕ) (d : DefinitionTree) (m : Measure) → IsWeighed l all w → slice_get all k ≡ Some d
    → m ≡ definition_measure (alg_by l w) (source_for l) d → table ≡ slice_set w.table k (Some m) → IsWeighed l all (record { exact = w.exact; count = w.count; firsts = w.firsts; table = table })
table-weighed l all w table k d m is at told same = record {
  numbered = is.numbered;
  weighed = λ n e x h there. put-weighed (source_for l) (alg_by l w) all w.table k d m is.weighed at told n e x h (ap (λ xs. slice_get xs n) (sym same) ∙ there);
  exact = is.exact;
}
