-- The components of a source, each with what the paths of all that it declares begin with.
use Rattle.std.specs.Prelude.{◌≡◌, ℕ, List, [], ◌∷◌, ◌++◌, map, flat_map, Option, Some, None, slice_get}
use Rattle.cif_ast.specs.declared.names.Ident.{Ident}
use Rattle.cif_source.specs.Source.{Text, SourceBody, group_body, Source, no_source}
use Rattle.cif_source.specs.Components.{Component, body_of, path_of}
use Rattle.cif_source.specs.Objects.{components_of}
use Rattle.cif_scope.specs.Scopes.{AreScopesOf}
use Rattle.cif_scope.specs.Written.{WrittenBody, body_of_written, written_bodies}
use Rattle.cif_inst_components.specs.Numbers.{AreComponentsOf}
use Rattle.cif_inst_components.specs.declared.components.Component.{Component as Numbered}
use Rattle.cif_inst_components.specs.declared.components.Place.{Place}
use Rattle.cif_inst_paths.specs.declared.rows.Bodies.{Bodies}

abbrev pub RowTree : Type 0
RowTree = Text × SourceBody

-- a name and a dot more
abbrev pub inner : Text → Ident → Text
inner p n = (p ++ n.text) ++ 46 ∷ []

-- each name of its path with a dot behind it
abbrev pub prefix_of : Component → Text
prefix_of c = flat_map (λ x. x ++ 46 ∷ []) (path_of c)

abbrev pub row_for : Component → RowTree
row_for c = (prefix_of c, body_of c)

abbrev pub rows_of : Source → List RowTree
rows_of t = map row_for (components_of t)

-- ---- by numbers

abbrev pub number_of : Option Numbered → ℕ
number_of None = 0
number_of (Some c) = c.body

-- the number of the body of component k
abbrev pub body_number : List Numbered → ℕ → ℕ
body_number all k = number_of (slice_get all k)

abbrev pub place_of : Option Numbered → Option Place
place_of None = None
place_of (Some c) = c.stands

-- where component k stands in another
abbrev pub stands_at : List Numbered → ℕ → Option Place
stands_at all k = place_of (slice_get all k)

abbrev pub body_or : Option WrittenBody → SourceBody
body_or None = group_body no_source
body_or (Some w) = w.body

abbrev pub body_in : List WrittenBody → ℕ → SourceBody
body_in ws k = body_or (slice_get ws k)

-- they are those of the source
pub record AreBodiesOf (t : Source) (b : Bodies) : Type 0 where
  pub scopes : AreScopesOf t b.scopes.now
  pub components : AreComponentsOf t b.components.now
  pub written : map body_of_written b.written.now ≡ written_bodies t
