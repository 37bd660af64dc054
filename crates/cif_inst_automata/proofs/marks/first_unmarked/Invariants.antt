use Rattle.std.proofs.Common.{◌≡◌, ◌+◌, drop}
use Rattle.std.specs.List.{position_or_len}
use Rattle.cif_inst_automata.specs.Marks.{is_unmarked}
use Rattle.cif_inst_automata.proofs.marks.first_unmarked.Given as goal

abbrev pub invariant-loop-place : goal.invariant-loop-place
invariant-loop-place l = l.place + position_or_len (is_unmarked l.mark l.marks) (drop l.place l.events) ≡ position_or_len (is_unmarked l.mark l.marks) l.events
