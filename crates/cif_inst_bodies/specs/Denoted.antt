-- What it means that a name of a component denotes an event, a variable, a location or a value of the source.
use Rattle.std.specs.Prelude.{◌≡◌, ℕ, ◌<◌, Bool, true, false, length, Option, Some}
use Rattle.cif_ast.specs.Tree.{Tree}
use Rattle.cif_ast.specs.declared.names.Ident.{Ident}
use Rattle.cif_ast.specs.declared.names.Name.{Name}
use Rattle.cif_ast.specs.declared.declarations.Class.{Class}
use Rattle.cif_system.specs.Words.{Member}
use Rattle.cif_source.specs.Source.{ChannelTree, TypeTree, event_decl, const_decl, alg_decl, input_decl, disc_decl, Source}
use Rattle.cif_source.specs.Components.{Component, Entry, declared, literal, location}
use Rattle.cif_source.specs.Lookup.{reached, found, denotes, Object, thing, given}
use Rattle.cif_source.specs.Objects.{components_of, decls_of, locs_of, events, variables}
use Rattle.cif_source.specs.Step.{event_at, variable_at}
use Rattle.cif_source.specs.Kinds.{Kind, no_kind, kind_at, kind_of}
use Rattle.cif_inst_bodies.specs.Entries.{IsOf}

-- an event that a component of the source declares, and its number
pub record DenotesEvent (t : Source) (c : Component) (nm : Name) : Type 0 where
  pub place : Component
  pub class : Class
  pub channel : ChannelTree
  pub ident : Ident
  pub is_listed : Member place (components_of t)
  pub is_declared : Member (event_decl class channel ident) (decls_of place)
  pub is_denoted : denotes c nm ≡ Some (thing place (declared (event_decl class channel ident)))
  pub event : ℕ
  pub is_event : event_at (denotes c nm) ≡ Some event
  pub is_below : event < length (events t)

-- a variable that a component of the source declares, and its number; no parameter stands for one
pub record DenotesVariable (t : Source) (c : Component) (nm : Name) : Type 0 where
  pub place : Component
  pub type_of : TypeTree
  pub ident : Ident
  pub first : Option Tree
  pub is_listed : Member place (components_of t)
  pub is_declared : Member (disc_decl type_of ident first) (decls_of place)
  pub is_found : found c nm ≡ reached (place, declared (disc_decl type_of ident first))
  pub is_denoted : denotes c nm ≡ Some (thing place (declared (disc_decl type_of ident first)))
  pub variable : ℕ
  pub is_variable : variable_at (denotes c nm) ≡ Some variable
  pub is_below : variable < length (variables t)

-- a location of a component of the source, by its place
pub record DenotesLocation (t : Source) (c : Component) (nm : Name) : Type 0 where
  pub place : Component
  pub number : ℕ
  pub is_listed : Member place (components_of t)
  pub is_below : number < length (locs_of place)
  pub is_denoted : denotes c nm ≡ Some (thing place (location number))

-- what has a value and is no parameter
abbrev pub is_valued : Entry → Bool
is_valued (declared (const_decl ty n e)) = true
is_valued (declared (alg_decl ty n e)) = true
is_valued (declared (input_decl ty n)) = true
is_valued (declared (disc_decl ty n e)) = true
is_valued (literal k ls) = true
is_valued (location k) = true
is_valued _ = false

-- what a component of the source declares, or an argument for an `alg` parameter, that stands in a component
abbrev pub HasValue : Source → Object → Type 0
HasValue t (thing c e) = Member c (components_of t) × IsOf c e × (is_valued e ≡ true)
HasValue t (given g e) = Member g (components_of t)

abbrev pub object_kind : Object → Kind
object_kind (thing c e) = kind_at (reached (c, e))
object_kind (given g e) = kind_of g no_kind e

-- what has a value, of the kind that the name has
pub record DenotesValue (t : Source) (c : Component) (nm : Name) : Type 0 where
  pub object : Object
  pub is_denoted : denotes c nm ≡ Some object
  pub has_value : HasValue t object
  pub has_kind : object_kind object ≡ kind_at (found c nm)
