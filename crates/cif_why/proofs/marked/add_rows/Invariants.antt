use Rattle.std.proofs.Common.{◌≡◌, ◌<◌, ◌^◌, ◌++◌, Bool, List, drop, length, map}
use Rattle.std.specs.List.{AllByRecursion}
use Rattle.cif_why.specs.Marked.{rows_told}
use Rattle.cif_why.specs.View.{reason_tree}
use Rattle.cif_why.proofs.marked.add_rows.Given as goal

abbrev pub invariant-loop-edge : goal.invariant-loop-edge
invariant-loop-edge l = record {
  all : map reason_tree l.all ++ rows_told l.automaton l.edge (drop l.edge l.rows) ≡ map reason_tree l.initial.all ++ rows_told l.automaton 0 l.rows;
  few : AllByRecursion (λ (row : List Bool). length row < 2 ^ 32) (drop l.edge l.rows);
}
