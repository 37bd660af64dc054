use Rattle.std.proofs.Common.{◌≡◌, ◌++◌, map, drop}
use Rattle.cif_inst_sizes.specs.Definitions.{definition_tree}
use Rattle.cif_inst_paths.specs.Views.{row_tree}
use Rattle.cif_inst.specs.Definitions.{rows_definitions}
use Rattle.cif_inst.proofs.definitions.all_definitions.Given as goal

abbrev pub invariant-loop-place : goal.invariant-loop-place
invariant-loop-place l = map definition_tree l.all.items ++ rows_definitions l.place (map row_tree (drop l.place l.rows)) ≡ rows_definitions 0 (map row_tree l.rows)
