use Rattle.std.proofs.Common.{◌≡◌, ◌++◌, length, map, drop}
use Rattle.cif_source.specs.Objects.{events}
use Rattle.cif_inst_names.specs.Looking.{source_for}
use Rattle.cif_inst_automata.specs.Alphabets.{rows_alphabets, rows_lacks}
use Rattle.cif_inst_automata.specs.Marks.{AreMarks}
use Rattle.cif_inst_paths.specs.Views.{row_tree}
use Rattle.cif_inst_automata.proofs.alphabets.all_alphabets.Given as goal

abbrev pub invariant-loop-place : goal.invariant-loop-place
invariant-loop-place l = record {
  found : l.all ++ rows_alphabets l.looking l.place (map row_tree (drop l.place l.rows)) ≡ rows_alphabets l.looking 0 (map row_tree l.rows);
  within : rows_lacks l.looking l.place (map row_tree (drop l.place l.rows)) ≡ rows_lacks l.looking 0 (map row_tree l.rows);
  marks : AreMarks (length (events (source_for l.looking))) l.place l.marks;
}
