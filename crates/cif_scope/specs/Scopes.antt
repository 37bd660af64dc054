-- The scopes of a source, and what a name finds in them.
use Rattle.std.specs.Prelude.{◌≡◌, ℕ, map, Option, Some, None, slice_get}
use Rattle.cif_ast.specs.declared.names.Ident.{Ident}
use Rattle.cif_source.specs.Source.{InstanceTree, Source}
use Rattle.cif_source.specs.Components.{Component, StandingInstance, blank, as_written, scope_of, Entry, declared, literal, location, inner, definition, instance, parameter}
use Rattle.cif_source.specs.Lookup.{Reached, reached, missing, blocked, definition_found}
use Rattle.cif_source.specs.Objects.{bodies}
use Rattle.cif_source.specs.Slots.{passed_through}
use Rattle.cif_source.specs.Scoping.{instances_of, UnknownDue, DuplicateDue, WrongKindDue, DefinitionCycleDue}
use Rattle.cif_system.specs.Words.{AreDistinct}
use Rattle.cif_scope.specs.declared.scope.Scope.{Scope}
use Rattle.cif_scope.specs.declared.looked.Slot.{Slot}
use Rattle.cif_scope.specs.declared.table.Table.{Table}
use Rattle.cif_scope.specs.declared.scopes.Found.{Found}
use Rattle.cif_scope.specs.declared.scopes.Scopes.{Scopes}
use Rattle.cif_scope.specs.Tables.{IsBody, Beside, IsTable}
use Rattle.cif_scope.specs.Looks.{texts_of, Definitions}

-- each scope's names by their slots, of which none stands twice
pub record IsIndexed (tb : Table) : Type 0 where
  pub names : tb.names ≡ map texts_of tb.scopes
  pub distinct : (k : ℕ) (s : Scope) → slice_get tb.scopes k ≡ Some s → AreDistinct (texts_of s)

-- the body of the definition found, where one is found
abbrev pub Defines : Source → Reached → Option ℕ → Type 0
Defines t (reached (o, definition n ps b)) d = (k : ℕ) × (d ≡ Some k) × IsBody t k (blank o n ps b)
Defines t (reached (o, declared x)) d = d ≡ None
Defines t (reached (o, literal j ls)) d = d ≡ None
Defines t (reached (o, location j)) d = d ≡ None
Defines t (reached (o, inner n b)) d = d ≡ None
Defines t (reached (o, instance i)) d = d ≡ None
Defines t (reached (o, parameter j p)) d = d ≡ None
Defines t missing d = d ≡ None
Defines t blocked d = d ≡ None

abbrev pub IsDefinitionOf : Source → Component → InstanceTree → Option ℕ → Type 0
IsDefinitionOf t c i d = Defines t (definition_found c i) d

-- for each body the definitions of its instances, as bodies
abbrev pub AreDefinitions : Source → Definitions → Type 0
AreDefinitions t defs = Beside (λ c ds. Beside (IsDefinitionOf t c) (instances_of c) ds) (bodies t) defs

-- none of the rules on scopes is broken
pub record KeepsScoping (t : Source) : Type 0 where
  pub known : (at : ℕ) → UnknownDue t at → ⊥
  pub single : (at first : ℕ) → DuplicateDue t at first → ⊥
  pub fitting : (at : ℕ) → WrongKindDue t at → ⊥
  pub acyclic : (at : ℕ) → DefinitionCycleDue t at → ⊥

-- the scopes of all bodies, whatever rules the source breaks besides that on names declared twice
pub record AreNumbered (t : Source) (s : Scopes) : Type 0 where
  pub table : IsTable t s.table.scopes
  pub indexed : IsIndexed s.table
  pub definitions : AreDefinitions t s.definitions

pub record AreScopesOf (t : Source) (s : Scopes) : Type 0 where
  pub numbers : AreNumbered t s
  pub rules : KeepsScoping t

-- the slot of the scope of c in which the entry stands
abbrev pub IsEntry : Component → Entry → ℕ → Type 0
IsEntry c e s = (n : Ident) × (slice_get (scope_of c) s ≡ Some (n, e))

-- the slot of an instance that a name passes
abbrev pub IsPassed : Source → StandingInstance → Slot → Type 0
IsPassed t (g, i) s = IsBody t s.body (as_written g) × IsEntry g (instance i) s.slot

-- what is found, by numbers: the body as written, the slot there, and the instances passed on the way
pub record IsFound (t : Source) (c : Component) (e : Entry) (f : Found) : Type 0 where
  pub body : IsBody t f.body (as_written c)
  pub slot : IsEntry c e f.slot
  pub through : Beside (IsPassed t) (passed_through c) f.through

abbrev pub Finds : Source → Reached → Option Found → Type 0
Finds t (reached (c, e)) (Some f) = IsFound t c e f
Finds t (reached (c, e)) None = ⊥
Finds t missing (Some f) = ⊥
Finds t missing None = Unit {0}
Finds t blocked (Some f) = ⊥
Finds t blocked None = Unit {0}
