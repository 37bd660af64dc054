use Rattle.std.proofs.Common.{◌≡◌, drop}
use Rattle.cif_inst_automata.specs.Marks.{AreMarks}
use Rattle.cif_inst_automata.specs.Roles as roles
use Rattle.cif_inst_automata.proofs.roles.first_mixed.Given as goal

abbrev pub invariant-loop-place : goal.invariant-loop-place
invariant-loop-place l = record {
  rest : roles.first_mixed (drop l.place l.alphabets) ≡ roles.first_mixed l.alphabets;
  marks : AreMarks l.events l.place l.marks;
}
