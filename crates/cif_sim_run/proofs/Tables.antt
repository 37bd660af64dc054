-- A table of what choices may change, one choice after the other.
use Rattle.std.proofs.Common.{◌≡◌, inl, inr, ℕ, zero, suc, ◌≤◌, List, [], ◌∷◌, ◌++◌, length, Some, refl, sym, ap, subst, ◌∙◌, arith}
use Rattle.std.specs.Prelude.{slice_get}
use Rattle.std.proofs.lemmas.Bool.{cases_lt}
use Rattle.cif_system.proofs.Lists.{none-some, some-same}
use Rattle.cif_net.specs.View.{choice_tree}
use Rattle.cif_net.specs.declared.listing.Choice.{Choice}
use Rattle.cif_script.specs.declared.touched.Touched.{Touched}
use Rattle.cif_sim.proofs.Segments.{get-front}
use Rattle.cif_sim_run.specs.Made.{IsTouchedBy}

-- as far as there are entries
abbrev pub Each : List Choice → List Touched → Type 0
Each cs xs = (k : ℕ) (c : Choice) (x : Touched) → slice_get cs k ≡ Some c → slice_get xs k ≡ Some x → IsTouchedBy (choice_tree c) x

at-end : {A : Type 0} (xs : List A) (x y : A) (k : ℕ) → length xs ≤ k → slice_get (xs ++ x ∷ []) k ≡ Some y → (k ≡ length xs) × (y ≡ x)
at-end [] x y zero l h = (refl, sym (some-same x y h))
at-end [] x y (suc k) l h = absurd (none-some y h)
at-end (z ∷ xs) x y zero l h = absurd (omega (arith, l))
at-end (z ∷ xs) x y (suc k) l h = let r = at-end xs x y k (omega (arith, l)) h in (ap suc r.0, r.1)

pub no-entries : (cs : List Choice) → Each cs []
no-entries cs k c x at is = absurd (none-some x is)

pub entry-more : (cs : List Choice) (xs : List Touched) (i : ℕ) (d : Choice) (y : Touched) → length xs ≡ i → slice_get cs i ≡ Some d → IsTouchedBy (choice_tree d) y → Each cs xs → Each cs (xs ++ y ∷ [])
entry-more cs xs i d y long here touched each k c x at is =
    elim (cases_lt k (length xs)) [
      | inl less ↦ each k c x at (sym (get-front xs (y ∷ []) k less) ∙ is)
      | inr more ↦
          let r = at-end xs y x k more is in
          let same : d ≡ c = some-same d c (sym here ∙ ap (slice_get cs) (sym (r.0 ∙ long)) ∙ at) in
          subst (λ z. IsTouchedBy (choice_tree c) z) (sym r.1) (subst (λ e. IsTouchedBy (choice_tree e) y) same touched)
    ]
