-- What the names of components are looked up in.
use Rattle.std.specs.Prelude.{ℕ, map, Option, Some, None, slice_get}
use Rattle.cif_source.specs.Source.{Source, source_of}
use Rattle.cif_source.specs.Components.{Component, whole}
use Rattle.cif_source.specs.Objects.{components_of}
use Rattle.cif_scope.specs.Scopes.{AreScopesOf}
use Rattle.cif_inst_components.specs.Numbers.{AreComponentsOf}
use Rattle.cif_inst_numbers.specs.Numbers.{AreNumbersOf}
use Rattle.cif_inst_parameters.specs.Given.{given_items, AreParametersOf}
use Rattle.cif_inst_names.specs.Objects.{AreValuesOf}
use Rattle.cif_inst_names.specs.declared.looking.Looking.{Looking}

abbrev pub or_whole : Source → Option Component → Component
or_whole t None = whole t
or_whole t (Some c) = c

-- component k of a source
abbrev pub component_of : Source → ℕ → Component
component_of t k = or_whole t (slice_get (components_of t) k)

-- the source whose names they are
abbrev pub source_for : Looking → Source
source_for l = source_of l.spec.now

abbrev pub component_at : Looking → ℕ → Component
component_at l k = component_of (source_for l) k

-- names of a source with its scopes, its components, the numbers of what they declare, the values of its constants, and what its
-- parameters stand for
pub record AreNamesOf (l : Looking) : Type 0 where
  pub scopes : AreScopesOf (source_for l) l.scopes.now
  pub components : AreComponentsOf (source_for l) l.components.now
  pub numbers : AreNumbersOf (source_for l) l.numbers.now
  pub values : AreValuesOf (source_for l) l.values.now
  pub given : AreParametersOf (source_for l) (map given_items l.given.now)
