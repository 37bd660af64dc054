-- Names by their slots, and names that stand twice.
use Rattle.std.specs.Prelude.{◌≡◌, ℕ, List, map, Some, slice_get, true}
use Rattle.std.specs.List.{list_all}
use Rattle.cif_system.specs.Words.{AreDistinct, Before}
use Rattle.cif_ast.specs.declared.names.Ident.{Ident}
use Rattle.cif_source.specs.Source.{Text, Source}
use Rattle.cif_scope.specs.declared.scope.ScopeName.{ScopeName}
use Rattle.cif_scope.specs.declared.scope.Scope.{Scope}
use Rattle.cif_scope.specs.declared.table.Table.{Table}
use Rattle.cif_scope.specs.declared.error.ScopeErr.{ScopeErr}
use Rattle.cif_scope.specs.declared.error.ScopeErr.TheVariants.{Unknown, Duplicate, WrongKind, DefinitionCycle, Memory}
use Rattle.cif_scope.specs.Few.{is_few, has_few}
use Rattle.cif_scope.specs.Tables.{IsTable}
use Rattle.cif_scope.specs.Looks.{text_of, texts_of}
use Rattle.cif_scope.specs.Scopes.{IsIndexed}

abbrev pub ident_of : ScopeName → Ident
ident_of n = n.name

abbrev pub idents_of : List ScopeName → List Ident
idents_of ns = map ident_of ns

-- the names, of which none stands twice
pub record IsIndexOf (ns : List ScopeName) (keys : List Text) : Type 0 where
  pub names : keys ≡ map text_of ns
  pub distinct : AreDistinct (map text_of ns)
  pub few : is_few ns ≡ true

pub record AreIndexed (scopes : List Scope) (all : List (List Text)) : Type 0 where
  pub names : all ≡ map texts_of scopes
  pub distinct : (k : ℕ) (s : Scope) → slice_get scopes k ≡ Some s → AreDistinct (texts_of s)
  pub few : list_all has_few scopes ≡ true

-- one name stands at both places
pub record StandsTwice (names : List Ident) (at first : ℕ) : Type 0 where
  pub earlier : Ident
  pub later : Ident
  pub order : Before earlier later names
  pub same : earlier.text ≡ later.text
  pub first_at : earlier.at ≡ first
  pub later_at : later.at ≡ at

-- one of the scopes has it twice
abbrev pub StandsTwiceIn : List Scope → ℕ → ℕ → Type 0
StandsTwiceIn scopes at first = (k : ℕ) × (s : Scope) × (slice_get scopes k ≡ Some s) × StandsTwice (idents_of s.names) at first

-- the error is a name that stands twice so, or want of memory
abbrev pub OnlyDuplicate : (ℕ → ℕ → Type 0) → ScopeErr → Type 0
OnlyDuplicate P (Unknown at) = ⊥
OnlyDuplicate P (Duplicate at first) = P at first
OnlyDuplicate P (WrongKind at) = ⊥
OnlyDuplicate P (DefinitionCycle at) = ⊥
OnlyDuplicate P Memory = Unit {0}

pub record IsTabled (t : Source) (tb : Table) : Type 0 where
  pub table : IsTable t tb.scopes
  pub indexed : IsIndexed tb
