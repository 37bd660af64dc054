use Rattle.std.proofs.Common.{◌≡◌, map, take}
use Rattle.cif_source.specs.Source.{source_of}
use Rattle.cif_source.specs.Objects.{components_of}
use Rattle.cif_inst_paths.specs.Rows.{row_for}
use Rattle.cif_inst_paths.specs.Views.{row_tree}
use Rattle.cif_inst_paths.proofs.rows.all_rows.Given as goal

abbrev pub invariant-loop-component : goal.invariant-loop-component
invariant-loop-component l = map row_tree l.rows.items ≡ map row_for (take l.component (components_of (source_of l.spec)))
