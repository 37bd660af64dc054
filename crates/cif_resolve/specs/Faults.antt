-- What the answers about names say of a source.
use Rattle.std.specs.Prelude.{ℕ, false, Option}
use Rattle.cif_source.specs.Source.{InstanceTree, Source}
use Rattle.cif_source.specs.Components.{Component}
use Rattle.cif_source.specs.Lookup.{definition_found}
use Rattle.cif_source.specs.Uses.{Use, uses, sought, is_asked, OwnName, own_ident, own_names, own_sought, is_own_asked}
use Rattle.cif_source.specs.Objects.{bodies}
use Rattle.cif_source.specs.Scoping.{is_missing, is_wrong, instances_of, has_wrong_count, UnknownDue, DuplicateDue, WrongKindDue, DefinitionCycleDue}
use Rattle.cif_scope.specs.declared.scopes.Scopes.{Scopes}
use Rattle.cif_scope.specs.Scopes.{AreNumbered}
use Rattle.cif_scope.specs.declared.error.ScopeErr.{ScopeErr}
use Rattle.cif_scope.specs.declared.error.ScopeErr.TheVariants.{Unknown, Duplicate, WrongKind, DefinitionCycle, Memory}
use Rattle.cif_resolve.specs.Tests.{fault_of, first_some, or_later}

-- ---- the first fault of a body, by its names

abbrev pub use_told : Component → Use → Option ScopeErr
use_told c u = fault_of u.name.at (is_missing (sought c u)) (is_wrong (is_asked u.asks) (sought c u))

abbrev pub own_told : Component → OwnName → Option ScopeErr
own_told c n = fault_of (own_ident n).at (is_missing (own_sought c n)) (is_wrong (is_own_asked n) (own_sought c n))

abbrev pub count_told : Component → InstanceTree → Option ScopeErr
count_told c i = fault_of i.name.at false (has_wrong_count i (definition_found c i))

abbrev pub names_told : Component → Option ScopeErr
names_told c = or_later (first_some (use_told c) (uses c)) (or_later (first_some (own_told c) (own_names c)) (first_some (count_told c) (instances_of c)))

-- ---- answers

-- the rule of the error is broken at the places that it tells; of want of memory nothing is said
abbrev pub ScopeDue : Source → ScopeErr → Type 0
ScopeDue t (Unknown at) = UnknownDue t at
ScopeDue t (Duplicate at first) = DuplicateDue t at first
ScopeDue t (WrongKind at) = WrongKindDue t at
ScopeDue t (DefinitionCycle at) = DefinitionCycleDue t at
ScopeDue t Memory = Unit {0}

-- each name is declared, and is of the sort that its position asks for
pub record KeepsNames (t : Source) : Type 0 where
  pub known : (at : ℕ) → UnknownDue t at → ⊥
  pub fitting : (at : ℕ) → WrongKindDue t at → ⊥

-- the scopes of all bodies of a source that breaks no rule on names, but may have definitions, types or constants that reach
-- themselves
pub record AreFitting (t : Source) (s : Scopes) : Type 0 where
  pub numbers : AreNumbered t s
  pub known : (at : ℕ) → UnknownDue t at → ⊥
  pub single : (at first : ℕ) → DuplicateDue t at first → ⊥
  pub fitting : (at : ℕ) → WrongKindDue t at → ⊥
