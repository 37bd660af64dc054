use Rattle.std.proofs.Common.{◌≡◌, drop}
use Rattle.cif_inst_automata.specs.Marks.{marked}
use Rattle.cif_inst_automata.proofs.marks.give_mark.Given as goal

abbrev pub invariant-loop-event : goal.invariant-loop-event
invariant-loop-event l = marked l.mark (drop l.event-index l.events) l.marks ≡ marked l.mark l.events l.fn.marks
