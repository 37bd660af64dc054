-- What the types of `src/` stand for.
use Rattle.cif_source.specs.Uses as spec
use Rattle.cif_scope_uses.specs.declared.uses.Asked.{Asked}
use Rattle.cif_scope_uses.specs.declared.uses.Asked.TheVariants as asked
use Rattle.cif_scope_uses.specs.declared.uses.Use.{Use}
use Rattle.cif_scope_uses.specs.declared.own_names.OwnName.{OwnName}
use Rattle.cif_scope_uses.specs.declared.own_names.OwnName.TheVariants as own

abbrev pub sort_of : Asked → spec.Asked
sort_of asked.Event = spec.event_asked
sort_of asked.Location = spec.location_asked
sort_of asked.Type = spec.type_asked
sort_of asked.Definition = spec.definition_asked
sort_of asked.Variable = spec.variable_asked
sort_of asked.Value = spec.value_asked
sort_of asked.Any = spec.any_asked

-- the use that a reference to a name and its sort stand for
abbrev pub use_of : Use → spec.Use
use_of u = record { name = u.name.now; asks = sort_of u.asks }

abbrev pub own_name_of : OwnName → spec.OwnName
own_name_of (own.Target n) = spec.target n.now
own_name_of (own.LeftSide n) = spec.left_side n.now
