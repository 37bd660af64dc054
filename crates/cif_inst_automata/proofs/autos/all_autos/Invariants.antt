use Rattle.std.proofs.Common.{◌≡◌, ◌++◌, length, map, drop}
use Rattle.cif_net.specs.View.{auto_tree}
use Rattle.cif_inst_automata.specs.Alphabets.{rows_alphabets}
use Rattle.cif_inst_automata.specs.Autos.{rows_autos}
use Rattle.cif_inst_paths.specs.Views.{row_tree}
use Rattle.cif_inst_automata.proofs.autos.all_autos.Given as goal

abbrev pub invariant-loop-place : goal.invariant-loop-place
invariant-loop-place l = record {
  made : map auto_tree l.all ++ rows_autos l.looking l.place (map row_tree (drop l.place l.rows)) ≡ rows_autos l.looking 0 (map row_tree l.rows);
  left : drop (length l.all) l.alphabets ≡ rows_alphabets l.looking l.place (map row_tree (drop l.place l.rows));
}
