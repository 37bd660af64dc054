use Rattle.std.proofs.Common.{◌≡◌, ◌++◌, drop, map}
use Rattle.std.specs.List.{AllByRecursion}
use Rattle.cif_why.specs.Marked.{AreFewRows, marks_told}
use Rattle.cif_why.specs.View.{reason_tree}
use Rattle.cif_why.proofs.marked.add_marked.Given as goal

abbrev pub invariant-loop-automaton : goal.invariant-loop-automaton
invariant-loop-automaton l = record {
  all : map reason_tree l.all ++ marks_told l.automaton (drop l.automaton l.marks) ≡ map reason_tree l.initial.all ++ marks_told 0 l.marks;
  few : AllByRecursion AreFewRows (drop l.automaton l.marks);
}
