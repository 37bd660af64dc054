use Rattle.std.proofs.Common.{◌≡◌, drop}
use Rattle.std.specs.List.{list_any}
use Rattle.cif_inst_automata.specs.Marks.{is_marked}
use Rattle.cif_inst_automata.proofs.marks.has_mark.Given as goal

abbrev pub invariant-loop-event : goal.invariant-loop-event
invariant-loop-event l = list_any (is_marked l.mark l.marks) (drop l.event-index l.events) ≡ list_any (is_marked l.mark l.marks) l.events
