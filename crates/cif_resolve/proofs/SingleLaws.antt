-- Where scopes are numbered, none declares a name twice.
use Rattle.std.proofs.Common.{◌≡◌, ℕ, inl, inr, List, [], ◌∷◌, map, refl, sym, ap, subst, ◌∙◌}
use Rattle.cif_ast.specs.declared.names.Ident.{Ident}
use Rattle.cif_system.specs.Words.{Member, AreDistinct, Before}
use Rattle.cif_source.specs.Source.{Text, Source}
use Rattle.cif_source.specs.Components.{Entry, Entries, scope_of}
use Rattle.cif_source.specs.Objects.{bodies}
use Rattle.cif_source.specs.Scoping.{DeclaresTwice, DuplicateDue}
use Rattle.cif_scope.specs.declared.scopes.Scopes.{Scopes}
use Rattle.cif_scope.specs.declared.error.ScopeErr.{ScopeErr}
use Rattle.cif_scope.specs.declared.error.ScopeErr.TheVariants.{Unknown, Duplicate, WrongKind, DefinitionCycle, Memory}
use Rattle.cif_scope.specs.Looks.{texts_of}
use Rattle.cif_scope.specs.Indexes.{OnlyDuplicate}
use Rattle.cif_scope.specs.Scopes.{AreNumbered}
use Rattle.cif_scope.proofs.BodyLaws.{row-of}
use Rattle.cif_scope.proofs.IndexLaws.{of-any}
use Rattle.cif_scope.proofs.LookLaws.{beside-texts}
use Rattle.cif_resolve.specs.Faults.{ScopeDue, KeepsNames, AreFitting}

abbrev idents : Entries → List Ident
idents es = map (λ (e : Ident × Entry). e.0) es

abbrev texts : Entries → List Text
texts es = map (λ (e : Ident × Entry). e.0.text) es

member-text : (es : Entries) (b : Ident) → Member b (idents es) → Member b.text (texts es)
member-text [] b m = m
member-text (e ∷ es) b m = elim m [ inl g ↦ inl (ap (λ (i : Ident). i.text) g) | inr g ↦ inr (member-text es b g) ]

twice-apart : (es : Entries) (a b : Ident) → Before a b (idents es) → a.text ≡ b.text → AreDistinct (texts es) → ⊥
twice-apart [] a b h same d = h
twice-apart (e ∷ es) a b h same d = elim h [
  | inl g ↦ d.0 (subst (λ (x : Text). Member x (texts es)) (sym same ∙ ap (λ (i : Ident). i.text) g.0) (member-text es b g.1))
  | inr g ↦ twice-apart es a b g same d.1
]

pub single-is : (t : Source) (s : Scopes) → AreNumbered t s → (at first : ℕ) → DuplicateDue t at first → ⊥
single-is t s are at first due =
    let w = of-any (λ c. DeclaresTwice c at first) (bodies t) due in
    let row = row-of t s.table.scopes are.table w.0 w.1 w.2 in
    let same : texts_of row.0 ≡ texts (scope_of w.1) = beside-texts t w.1 (scope_of w.1) row.0.names row.2.names in
    twice-apart (scope_of w.1) w.3.earlier w.3.later w.3.order w.3.same (subst (λ (l : List Text). AreDistinct l) same (are.indexed.distinct w.0 row.0 row.1))

pub fitting-are : (t : Source) (s : Scopes) → AreNumbered t s → KeepsNames t → AreFitting t s
fitting-are t s are keeps = record { numbers = are; known = keeps.known; single = single-is t s are; fitting = keeps.fitting }

pub duplicate-due : (t : Source) (e : ScopeErr) → OnlyDuplicate (DuplicateDue t) e → ScopeDue t e
duplicate-due t (Unknown at) h = absurd h
duplicate-due t (Duplicate at first) h = h
duplicate-due t (WrongKind at) h = absurd h
duplicate-due t (DefinitionCycle at) h = absurd h
duplicate-due t Memory h = tt
