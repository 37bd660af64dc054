-- Helper of the code: the inputs and the discrete variables that components declare, with their types and first values.
use Rattle.std.specs.Prelude.{◌≡◌, List, ◌++◌, map, Some}
use Rattle.cif_ast.specs.Tree.{Tree}
use Rattle.cif_system.specs.Words.{Member}
use Rattle.cif_source.specs.Source.{Source}
use Rattle.cif_source.specs.Components.{Component}
use Rattle.cif_source.specs.Types.{first_of_type}
use Rattle.cif_source.specs.Constants.{typed_constants}
use Rattle.cif_net_model.specs.Net.{NetStored}
use Rattle.cif_inst_model.specs.Types.{net_type}
use Rattle.cif_inst_types.specs.Types.{typed_value}
use Rattle.cif_inst_names.specs.Looking.{component_of}
use Rattle.cif_inst.specs.Declarations.{DatumTree, rows_data}
use Rattle.cif_inst_paths.specs.Rows.{RowTree}
use Rattle.cif_inst.specs.declared.declarations.Sort.{Sort}
use Rattle.cif_inst.specs.Typing.{typed_component, HasType}
use Rattle.cif_inst.specs.declared.typing.Typing.{Typing}

abbrev pub stored_in : Component → DatumTree → NetStored
stored_in c d = record {
  path = d.prefix ++ d.name.text;
  type_of = (net_type c d.type_of).type_of;
  first = first_of_type c d.type_of d.value;
  literals = (net_type c d.type_of).literals;
}

-- a variable or an input of a source
abbrev pub stored : Source → DatumTree → NetStored
stored t d = stored_in (component_of t d.component) d

-- all of a sort that these components declare
abbrev pub all_stored : Source → Sort → List RowTree → List NetStored
all_stored t s rows = map (stored t) (rows_data s 0 rows)

-- ---- what is to be stored

-- a component writes its type, and its value as a first one
pub record StandsIn (y : Typing) (d : DatumTree) : Type 0 where
  pub place : HasType y d
  pub valued : (e : Tree) → d.value ≡ Some e → Member (typed_value d.type_of e) (typed_constants (typed_component y d.component))

abbrev pub StandAll : Typing → List DatumTree → Type 0
StandAll y ds = (d : DatumTree) → Member d ds → StandsIn y d
