-- The body whose expressions are read.
use Rattle.std.specs.Prelude.{◌≡◌, ◌<◌, List, length, Option, Some, None, slice_get}
use Rattle.cif_source.specs.Source.{Text, Source, source_of}
use Rattle.cif_source.specs.Components.{Component, whole, params_of, body_of}
use Rattle.cif_source.specs.Objects.{bodies}
use Rattle.cif_scope.specs.Scopes.{AreNumbered}
use Rattle.cif_scope.specs.Written.{WrittenBody}
use Rattle.cif_source.specs.Kinds.{Kind}
use Rattle.cif_types_kinds.specs.Tables.{kind_for, AreKindsIn}
use Rattle.cif_types_kinds.specs.declared.reading.Reading.{Reading}

abbrev pub or_whole : Source → Option Component → Component
or_whole t None = whole t
or_whole t (Some c) = c

-- the source to which the body belongs
abbrev pub source_for : Reading → Source
source_for r = source_of r.spec.now

-- the body that is read
abbrev pub component_in : Reading → Component
component_in r = or_whole (source_for r) (slice_get (bodies (source_for r)) r.body)

abbrev pub lists_in : Reading → List (List Text)
lists_in r = r.table.now.lists

-- the kind of `?` there
abbrev pub received_in : Reading → Kind
received_in r = kind_for (lists_in r) r.received

-- the scopes and the kinds are those of the source, which has the body
pub record IsReading (r : Reading) : Type 0 where
  pub scopes : AreNumbered (source_for r) r.scopes.now
  pub kinds : AreKindsIn (source_for r) r.table.now
  pub body : r.body < length (bodies (source_for r))

-- the parameters and the body that are written there
pub record IsWrittenIn (r : Reading) (w : WrittenBody) : Type 0 where
  pub params : w.params ≡ params_of (component_in r)
  pub body : w.body ≡ body_of (component_in r)
