-- Helper of the code: the definitions of the algebraic variables that components declare, as they stand in the source.
use Rattle.std.specs.Prelude.{ℕ, ◌+◌, List, [], ◌∷◌, ◌++◌, map, Option, Some, None}
use Rattle.cif_ast.specs.Tree.{Tree}
use Rattle.cif_source.specs.Source.{Text, SourceBody}
use Rattle.cif_source.specs.Objects.{locs_in}
use Rattle.cif_inst_paths.specs.Rows.{RowTree}
use Rattle.cif_inst_sizes.specs.Definitions.{DefinitionTree}
use Rattle.cif_inst.specs.Declarations.{DatumTree, body_data}
use Rattle.cif_inst.specs.Equations.{Values, value_for, or_else, body_added, location_added}
use Rattle.cif_inst.specs.declared.declarations.Sort.TheVariants as sort

-- the one of a component's own, or else one for each location
abbrev pub values_with : Values → List Values → Text → Option Tree → List (Option Tree)
values_with own located x e = elim (or_else e (value_for x own)) [
  | Some d ↦ Some d ∷ []
  | None ↦ map (value_for x) located
]

abbrev pub definition_with : Values → List Values → DatumTree → DefinitionTree
definition_with own located d = record { component = d.component; values = values_with own located d.name.text d.value }

-- of component k
abbrev pub body_definitions : ℕ → Text → SourceBody → List DefinitionTree
body_definitions k p b = map (definition_with (body_added b) (map location_added (locs_in b))) (body_data sort.Algebraic k p b)

-- those of the components from number k on
abbrev pub rows_definitions : ℕ → List RowTree → List DefinitionTree
rows_definitions k [] = []
rows_definitions k (r ∷ rs) = body_definitions k r.0 r.1 ++ rows_definitions (k + 1) rs
