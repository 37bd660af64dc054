-- The state invariants of a net break a rule where those with algebraic variables replaced do.
use Rattle.std.proofs.Common.{◌≡◌, ℕ, true, false, not, ◌&&◌, List, [], ◌∷◌, inl, inr, refl, sym, ◌∙◌, ap, subst, Result, Ok, Err, IfErr}
use Rattle.std.specs.Result.{IsErrAnd}
use Rattle.std.specs.List.{list_all, AllZip}
use Rattle.cif_system.specs.Words.{Member}
use Rattle.cif_net_model.specs.Net.{NetInvariant, Net}
use Rattle.cif_net_model.specs.Reads.{reads_input}
use Rattle.cif_net_model.specs.Rules.{IsAcyclic, InvariantReadsInput, InvariantFalse, holds_first, invariant_keeps}
use Rattle.cif_net_model.proofs.Passing.{and-left, and-right, all-member}
use Rattle.cif_net_model.proofs.PlainLaws.{never}
use Rattle.cif_net_laws.specs.Invariants.{IsInvariantOf}
use Rattle.cif_alg.specs.declared.error.AlgErr.{AlgErr}
use Rattle.cif_alg.specs.declared.error.AlgErr.TheVariants as err
use Rattle.cif_alg.specs.Invariants.{IsBroken}
use Rattle.cif_alg.specs.Keeps.{KeepsExpressions, KeepsAlgebraic, due}

from-right : {A B : Type 0} (R : A → B → Type 0) (xs : List A) (ys : List B) → AllZip R xs ys → (y : B) → Member y ys → (x : A) × Member x xs × R x y
from-right R [] [] z y m = absurd m
from-right R [] (v ∷ ys) z y m = absurd z
from-right R (x ∷ xs) [] z y m = absurd m
from-right R (x ∷ xs) (v ∷ ys) z y (inl e) = (x, inl refl, subst (R x) (sym e) z.0)
from-right R (x ∷ xs) (v ∷ ys) z y (inr m) = let w = from-right R xs ys z.1 y m in (w.0, inr w.1, w.2)

from-left : {A B : Type 0} (R : A → B → Type 0) (xs : List A) (ys : List B) → AllZip R xs ys → (x : A) → Member x xs → (y : B) × Member y ys × R x y
from-left R [] ys z x m = absurd m
from-left R (u ∷ xs) [] z x m = absurd z
from-left R (u ∷ xs) (y ∷ ys) z x (inl e) = (y, inl refl, subst (λ v. R v y) (sym e) z.0)
from-left R (u ∷ xs) (y ∷ ys) z x (inr m) = let w = from-left R xs ys z.1 x m in (w.0, inr w.1, w.2)

module _ (n p : Net) (same : AllZip (IsInvariantOf n p) n.invariants p.invariants) where
  is-due : IsAcyclic n → (e : AlgErr) → IsBroken p e → due n e
  is-due acyclic (err.Cycle k) h = absurd h
  is-due acyclic (err.ZeroDivisor at) h = absurd h
  is-due acyclic (err.TooWide at) h = absurd h
  is-due acyclic (err.InvariantReadsInput at) h =
      let w = from-right (IsInvariantOf n p) n.invariants p.invariants same h.0 h.1 in
      (acyclic, w.0, w.1, sym w.2.at ∙ h.2, sym w.2.reads ∙ h.3)
  is-due acyclic (err.InvariantFalse at) h =
      let w = from-right (IsInvariantOf n p) n.invariants p.invariants same h.0 h.1 in
      (acyclic, w.0, w.1, sym w.2.at ∙ h.2, sym w.2.reads ∙ h.3, sym w.2.holds ∙ h.4)
  is-due acyclic (err.TooLarge nodes depth) h = absurd h
  is-due acyclic err.Memory h = tt

  -- where the refusal is handed on
  pub told-due : {A : Type 0} → IsAcyclic n → (r : Result A AlgErr) (e : AlgErr) → IsErrAnd r (λ a. a ≡ e) → IsBroken p e → IfErr r (due n)
  told-due acyclic (Ok d) e h k = tt
  told-due acyclic (Err a) e h k = subst (due n) (sym h) (is-due acyclic e k)

  module _ (keep : list_all (invariant_keeps p) p.invariants ≡ true) where
    kept : (i : NetInvariant) → Member i n.invariants → invariant_keeps n i ≡ true
    kept i m =
        let w = from-left (IsInvariantOf n p) n.invariants p.invariants same i m in
        ap (λ b. not b && holds_first n i.pred) (sym w.2.reads) ∙ ap (λ b. not (reads_input p w.0.pred) && b) (sym w.2.holds) ∙ all-member (invariant_keeps p) p.invariants w.0 keep w.1

    free : (at : ℕ) → InvariantReadsInput n at → ⊥
    free at w = never (sym (ap not w.4) ∙ and-left _ _ (kept w.1 w.2))

    holds : (at : ℕ) → InvariantFalse n at → ⊥
    holds at w = never (sym w.5 ∙ and-right _ _ (kept w.1 w.2))

    pub keeps-all : KeepsExpressions n → KeepsAlgebraic n
    keeps-all k = record { acyclic = k.acyclic; divides = k.divides; narrow = k.narrow; free = free; holds = holds; small = k.small }
