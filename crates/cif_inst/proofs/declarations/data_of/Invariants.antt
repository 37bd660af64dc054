use Rattle.std.proofs.Common.{◌≡◌, ◌++◌, map, drop}
use Rattle.cif_inst.specs.Declarations.{rows_data}
use Rattle.cif_inst_paths.specs.Views.{row_tree}
use Rattle.cif_inst.specs.Views.{datum_tree}
use Rattle.cif_inst.proofs.declarations.data_of.Given as goal

abbrev pub invariant-loop-place : goal.invariant-loop-place
invariant-loop-place l = map datum_tree l.all.items ++ rows_data l.sort l.place (map row_tree (drop l.place l.rows)) ≡ rows_data l.sort 0 (map row_tree l.rows)
