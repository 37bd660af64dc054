-- What is told of the bodies of a source.
use Rattle.std.proofs.Common.{◌≡◌, ◌<◌, ◌≤◌, get_or, ℕ, zero, suc, ◌+◌, List, false, inl, inr, length, map, Some, refl, sym, ap, subst, ◌∙◌, arith}
use Rattle.std.specs.Prelude.{Err, slice_get, ◌⊎◌}
use Rattle.cif_system.proofs.Lists.{false-true, map-length, some-same}
use Rattle.cif_system.proofs.Picks.{all-at}
use Rattle.cif_source.specs.Source.{Source, tree_at}
use Rattle.cif_source.specs.Components.{Component, params_of, body_of}
use Rattle.cif_source.specs.Objects.{bodies}
use Rattle.cif_source.specs.Kinds.{Demand}
use Rattle.cif_source.specs.Demands.{demands}
use Rattle.cif_source.specs.BodyRules.{BadValue, BadUse, BadArgument, MismatchDue}
use Rattle.cif_scope.specs.Tables.{IsBody}
use Rattle.cif_scope.specs.Scopes.{AreScopesOf}
use Rattle.cif_scope.specs.Written.{WrittenBody, written_bodies, body_of_written}
use Rattle.cif_scope.specs.declared.written.Written.{Written}
use Rattle.cif_scope.proofs.IndexLaws.{any-of, get-at, of-any}
use Rattle.cif_scope.proofs.LookLaws.{get-map}
use Rattle.cif_scope.proofs.Places.{beside-back, beside-length}
use Rattle.cif_scope.proofs.DefinitionLaws.{IsWritten, bodies-written}
use Rattle.cif_types_kinds.specs.Tables.{AreKindsIn}
use Rattle.cif_types_kinds.specs.Met.{is_met, AreMet, Checks}
use Rattle.cif_types_kinds.specs.Uses.{ChecksUses}
use Rattle.cif_types_kinds.specs.Readings.{IsReading, IsWrittenIn, source_for, component_in}
use Rattle.cif_types_kinds.specs.declared.reading.Reading.{Reading}
use Rattle.cif_types_kinds.specs.declared.error.KindErr.{KindErr}
use Rattle.cif_types_kinds.specs.declared.error.KindErr.TheVariants.{Mismatch, Memory}
use Rattle.cif_types_kinds.proofs.NameLaws.{body-is}
use Rattle.cif_types_arguments.specs.Arguments.{ChecksArguments}
use Rattle.cif_types.specs.Bodies.{IsFine, AreFine, MismatchTold}

-- the body that is read, among the others
module _ (r : Reading) (h : IsReading r) where
  same : (c : Component) → IsBody (source_for r) r.body c → component_in r ≡ c
  same c own = some-same (component_in r) c (sym (body-is r h) ∙ own)

  mismatch-there : (at : ℕ) → BadValue (component_in r) at ⊎ BadUse (component_in r) at ⊎ BadArgument (component_in r) at → MismatchDue (source_for r) at
  mismatch-there at bad = any-of (λ c. BadValue c at ⊎ BadUse c at ⊎ BadArgument c at) (bodies (source_for r)) r.body (component_in r) (body-is r h) bad

  met-values : (c : Component) → AreMet c (demands c) → (at : ℕ) → BadValue c at → ⊥
  met-values c met at bad =
      let d = of-any (λ (d : Demand). (tree_at d.value ≡ at) × (is_met c d ≡ false)) (demands c) bad in
      false-true d.3.1 (all-at (is_met c) (demands c) d.0 d.1 met d.2)

  pub values_told : (e : KindErr) → Checks {A = Unit {0}} (component_in r) (demands (component_in r)) (Err e) → MismatchTold (source_for r) e
  values_told (Mismatch at) told = mismatch-there at (inl told)
  values_told Memory told = tt

  pub uses_told : (e : KindErr) → ChecksUses {A = Unit {0}} (component_in r) (Err e) → MismatchTold (source_for r) e
  uses_told (Mismatch at) told = mismatch-there at (inr (inl told))
  uses_told Memory told = tt

  pub arguments_told : (e : KindErr) → ChecksArguments {A = Unit {0}} (component_in r) (Err e) → MismatchTold (source_for r) e
  arguments_told (Mismatch at) told = mismatch-there at (inr (inr told))
  arguments_told Memory told = tt

  pub body_fine : AreMet (component_in r) (demands (component_in r)) → ((at : ℕ) → BadUse (component_in r) at → ⊥) → ((at : ℕ) → BadArgument (component_in r) at → ⊥) → IsFine (source_for r) r.body
  body_fine met uses arguments = record {
    values = λ c own at bad. met-values (component_in r) met at (subst (λ x. BadValue x at) (sym (same c own)) bad);
    events = λ c own at bad. uses at (subst (λ x. BadUse x at) (sym (same c own)) bad);
    arguments = λ c own at bad. arguments at (subst (λ x. BadArgument x at) (sym (same c own)) bad);
  }

-- ---- one body after the other

below-or-same : (k n : ℕ) → k < suc n → (k < n) ⊎ (k ≡ n)
below-or-same zero zero h = inr refl
below-or-same zero (suc n) h = inl (omega arith)
below-or-same (suc k) zero h = absurd (omega (arith, h))
below-or-same (suc k) (suc n) h = elim (below-or-same k n (omega (arith, h))) [ inl w ↦ inl (omega (arith, w)) | inr w ↦ inr (ap suc w) ]

-- one more is fine
pub one_more : (t : Source) (n m : ℕ) → AreFine t n → IsFine t n → m ≡ n + 1 → AreFine t m
one_more t n m all here e k below =
    elim (below-or-same k n (omega (arith, below, e))) [
      | inl w ↦ all k w
      | inr w ↦ subst (IsFine t) (sym w) here
    ]

pub all_written : (t : Source) (ws : List WrittenBody) → ws ≡ written_bodies t → length ws ≡ length (bodies t)
all_written t ws e = ap length e ∙ beside-length IsWritten (bodies t) (written_bodies t) (bodies-written t)

pub is_reading : (r : Reading) → AreScopesOf (source_for r) r.scopes.now → AreKindsIn (source_for r) r.table.now → r.body < length (bodies (source_for r)) → IsReading r
is_reading r scopes kinds below = record { scopes = scopes.numbers; kinds = kinds; body = below }

pub is_written : (r : Reading) (ws : List WrittenBody) (w : WrittenBody) → IsReading r → ws ≡ written_bodies (source_for r) → slice_get ws r.body ≡ Some w → IsWrittenIn r w
is_written r ws w h e at =
    let b = beside-back IsWritten (bodies (source_for r)) (written_bodies (source_for r)) r.body w (bodies-written (source_for r)) (subst (λ xs. slice_get xs r.body ≡ Some w) e at) in
    let is : component_in r ≡ b.0 = some-same (component_in r) b.0 (sym (body-is r h) ∙ b.1) in
    record { params = sym (ap params_of is ∙ b.2.0); body = sym (ap body_of is ∙ b.2.1) }

-- ---- the loop over the bodies

pub reading_there : (r : Reading) (all : List Written) (k : ℕ) → AreScopesOf (source_for r) r.scopes.now → AreKindsIn (source_for r) r.table.now → map body_of_written all ≡ written_bodies (source_for r)
    → k < length all → r.body ≡ k → IsReading r
reading_there r all k scopes kinds e below is =
    is_reading r scopes kinds (omega (arith, below, is, map-length body_of_written all, all_written (source_for r) (map body_of_written all) e))

pub written_there : (r : Reading) (all : List Written) (k : ℕ) (one : Written) → IsReading r → map body_of_written all ≡ written_bodies (source_for r)
    → k < length all → one ≡ get_or all k one → r.body ≡ k → IsWrittenIn r (body_of_written one)
written_there r all k one h e below at is =
    is_written r (map body_of_written all) (body_of_written one) h e (subst (λ j. slice_get (map body_of_written all) j ≡ Some (body_of_written one)) (sym is) (get-map body_of_written all k one (get-at all k one below at)))

pub one_further : (t : Source) (k j : ℕ) → AreFine t k → IsFine t j → j ≡ k → AreFine t (k + 1)
one_further t k j all here is = one_more t k (k + 1) all (subst (IsFine t) is here) refl

pub all_fine : (t : Source) (all : List Written) (k : ℕ) → map body_of_written all ≡ written_bodies t → length all ≤ k → AreFine t k → AreFine t (length (bodies t))
all_fine t all k e end fine j below = fine j (omega (arith, below, end, map-length body_of_written all, all_written t (map body_of_written all) e))
