-- Helper of the code: what the types of declarations are found in.
use Rattle.std.specs.Prelude.{ℕ, ◌<◌, length}
use Rattle.cif_system.specs.Words.{Member}
use Rattle.cif_source.specs.Source.{Source}
use Rattle.cif_source.specs.Components.{Component}
use Rattle.cif_source.specs.Objects.{components_of}
use Rattle.cif_source.specs.Constants.{types_of}
use Rattle.cif_inst_constants.specs.Typed.{IsTyped}
use Rattle.cif_inst_names.specs.Looking.{component_of, source_for, AreNamesOf}
use Rattle.cif_inst.specs.Declarations.{DatumTree}
use Rattle.cif_inst_paths.specs.Rows.{body_number}
use Rattle.cif_inst.specs.declared.typing.Typing.{Typing}

-- the source whose types they are
abbrev pub typed_source : Typing → Source
typed_source y = source_for y.looking.now

abbrev pub typed_component : Typing → ℕ → Component
typed_component y k = component_of (typed_source y) k

-- the number of the body of its component
abbrev pub body_in : Typing → DatumTree → ℕ
body_in y d = body_number y.looking.now.components.now.all d.component

-- names have what they denote, and types their numbers
pub record AreTypesOf (y : Typing) : Type 0 where
  pub names : AreNamesOf y.looking.now
  pub typed : IsTyped (typed_source y) y.types.now y.turns

-- there is a component k
pub record IsHome (y : Typing) (k : ℕ) : Type 0 where
  pub types : AreTypesOf y
  pub below : k < length (components_of (typed_source y))

-- a component writes its type
pub record HasType (y : Typing) (d : DatumTree) : Type 0 where
  pub home : IsHome y d.component
  pub written : Member d.type_of (types_of (typed_component y d.component))
