-- What is told of the uses of events tells of one that does not fit.
use Rattle.std.proofs.Common.{◌≡◌, ℕ, Bool, true, false, inl, inr, List, [], ◌∷◌, Option, Some, None, refl, sym, ap, subst, ◌∙◌}
use Rattle.std.specs.Prelude.{flat_map, not, IsTrue, Result, Ok, Err}
use Rattle.cif_system.specs.Words.{Member}
use Rattle.cif_system.proofs.Lists.{some-same, none-some, false-true}
use Rattle.cif_source.specs.Source.{UseTree, EdgeTree, LocationTree, SourceBody, group_body, automaton_body}
use Rattle.cif_source.specs.Components.{Component, body_of}
use Rattle.cif_source.specs.Objects.{locs_in}
use Rattle.cif_source.specs.Demands.{event_channel, is_unfit}
use Rattle.cif_source.specs.BodyRules.{edges_of, BadUse}
use Rattle.cif_scope.specs.Written.{WrittenBody}
use Rattle.cif_types_kinds.specs.declared.error.KindErr.{KindErr}
use Rattle.cif_types_kinds.specs.declared.error.KindErr.TheVariants.{Mismatch, Memory}
use Rattle.cif_types_kinds.specs.declared.reading.Reading.{Reading}
use Rattle.cif_types_kinds.specs.Readings.{IsWrittenIn, component_in}
use Rattle.cif_types_kinds.specs.Faults.{unless, or_later, Tells}
use Rattle.cif_types_kinds.specs.Values.{first_told}
use Rattle.cif_types_kinds.specs.Uses.{unfit_told, edge_unfit_told, location_unfit_told, inside_unfit_told, ChecksUses}
use Rattle.cif_source.proofs.Elements.{from-any, to-any}
use Rattle.cif_types_kinds.proofs.ValueLaws.{first-flat}

-- ---- the first that is told

abbrev Told : {A : Type 0} → (A → Option ℕ) → List A → ℕ → Type 0
Told {A = A} f xs at = (x : A) × Member x xs × (f x ≡ Some at)

first-some : {A : Type 0} (f : A → Option ℕ) (xs : List A) (at : ℕ) → first_told f xs ≡ Some at → Told f xs at
first-some f [] at h = absurd (none-some at h)
first-some f (x ∷ xs) at h =
    (elim (f x) as (λ o. f x ≡ o → or_later o (first_told f xs) ≡ Some at → Told f (x ∷ xs) at) [
      | None ↦ λ e g. let w = first-some f xs at g in (w.0, inr w.1, w.2)
      | Some k ↦ λ e g. (x, inl refl, e ∙ g)
    ]) refl h

first-none : {A : Type 0} (f : A → Option ℕ) (xs : List A) (x : A) → first_told f xs ≡ None → Member x xs → f x ≡ None
first-none f [] x h m = absurd m
first-none f (y ∷ xs) x h m =
    (elim (f y) as (λ o. f y ≡ o → or_later o (first_told f xs) ≡ None → f x ≡ None) [
      | None ↦ λ e g. elim m [ inl w ↦ ap f w ∙ e | inr w ↦ first-none f xs x g w ]
      | Some k ↦ λ e g. absurd (none-some k (sym g))
    ]) refl h

unless-some : (b : Bool) (k at : ℕ) → unless (not b) k ≡ Some at → (k ≡ at) × (b ≡ true)
unless-some true k at h = (some-same k at h, refl)
unless-some false k at h = absurd (none-some at h)

unless-none : (b : Bool) (k : ℕ) → unless (not b) k ≡ None → b ≡ false
unless-none true k h = absurd (none-some k (sym h))
unless-none false k h = refl

-- ---- uses

uses-in : (c : Component) (b : SourceBody) → inside_unfit_told c b ≡ first_told (unfit_told c) (flat_map (λ (e : EdgeTree). e.uses) (flat_map (λ (l : LocationTree). l.edges) (locs_in b)))
uses-in c (group_body is) = refl
uses-in c (automaton_body a) =
    first-flat (edge_unfit_told c) (λ (l : LocationTree). l.edges) (location_unfit_told c) a.locs (λ l. refl)
    ∙ first-flat (unfit_told c) (λ (e : EdgeTree). e.uses) (edge_unfit_told c) (flat_map (λ (l : LocationTree). l.edges) a.locs) (λ e. refl)

abbrev uses_of : Component → List UseTree
uses_of c = flat_map (λ (e : EdgeTree). e.uses) (edges_of c)

bad-use : (c : Component) (at : ℕ) → first_told (unfit_told c) (uses_of c) ≡ Some at → BadUse c at
bad-use c at h =
    let w = first-some (unfit_told c) (uses_of c) at h in
    to-any (λ (u : UseTree). (u.name.at ≡ at) × IsTrue (is_unfit u.role (event_channel c u.name))) w.0 (uses_of c) w.1
    (unless-some (is_unfit w.0.role (event_channel c w.0.name)) w.0.name.at at w.2)

no-bad-use : (c : Component) (at : ℕ) → first_told (unfit_told c) (uses_of c) ≡ None → BadUse c at → ⊥
no-bad-use c at h bad =
    let w = from-any (λ (u : UseTree). (u.name.at ≡ at) × IsTrue (is_unfit u.role (event_channel c u.name))) (uses_of c) bad in
    false-true (unless-none (is_unfit w.0.role (event_channel c w.0.name)) w.0.name.at (first-none (unfit_told c) (uses_of c) w.0 h w.1)) w.2.1

uses-checked : {A : Type 0} (c : Component) (x : Result A KindErr) → Tells x (first_told (unfit_told c) (uses_of c)) → ChecksUses c x
uses-checked c (Ok x) h = λ at bad. no-bad-use c at h bad
uses-checked c (Err (Mismatch at)) h = bad-use c at h
uses-checked c (Err Memory) h = tt

pub uses_checked : {A : Type 0} (r : Reading) (w : WrittenBody) (x : Result A KindErr) → IsWrittenIn r w → Tells x (inside_unfit_told (component_in r) w.body) → ChecksUses (component_in r) x
uses_checked r w x is told = uses-checked (component_in r) x (subst (λ o. Tells x o) (ap (inside_unfit_told (component_in r)) is.body ∙ uses-in (component_in r) (body_of (component_in r))) told)
