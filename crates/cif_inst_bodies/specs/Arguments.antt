-- What an argument of an instance is.
use Rattle.std.specs.Prelude.{◌≡◌, ℕ, true}
use Rattle.cif_ast.specs.Tree.{Tree, node, named}
use Rattle.cif_ast.specs.declared.names.Name.{Name}
use Rattle.cif_source.specs.Source.{ParamTree, event_param, alg_param, location_param}
use Rattle.cif_source.specs.Components.{Component}
use Rattle.cif_source.specs.Lookup.{ScopeEntry, reached, found}
use Rattle.cif_source.specs.Uses.{Asked, event_asked, location_asked, is_asked}
use Rattle.cif_source.specs.Kinds.{no_kind, same_kind, type_kind, kind_of}

-- a bare name, which leads to what is asked for, or to a parameter of that sort
pub record IsNameFor (asks : Asked) (c : Component) (e : Tree) : Type 0 where
  pub name : Name
  pub at : ℕ
  pub is_bare : e ≡ node (named name) at
  pub place : ScopeEntry
  pub is_found : found c name ≡ reached place
  pub is_sort : is_asked asks place.1 ≡ true

-- an argument that stands in c for a parameter of the instance d: one for an `alg` parameter has the kind of its type
abbrev pub IsArgumentFor : Component → ParamTree → Component → Tree → Type 0
IsArgumentFor d (event_param k h n) c e = IsNameFor event_asked c e
IsArgumentFor d (alg_param ty n) c e = same_kind (kind_of c no_kind e) (type_kind d ty) ≡ true
IsArgumentFor d (location_param n) c e = IsNameFor location_asked c e
