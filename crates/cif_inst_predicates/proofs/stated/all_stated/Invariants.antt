use Rattle.std.proofs.Common.{◌≡◌, ◌++◌, map, drop}
use Rattle.cif_inst_paths.specs.Views.{row_tree}
use Rattle.cif_inst_predicates.specs.Stated.{rows_stated}
use Rattle.cif_inst_predicates.specs.Views.{stated_tree}
use Rattle.cif_inst_predicates.proofs.stated.all_stated.Given as goal

abbrev pub invariant-loop-place : goal.invariant-loop-place
invariant-loop-place l = map stated_tree l.all.items ++ rows_stated l.place (map row_tree (drop l.place l.rows)) ≡ rows_stated 0 (map row_tree l.rows)
