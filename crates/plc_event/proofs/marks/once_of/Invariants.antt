use Rattle.plc_event.proofs.Marking.{OnceSoFar}
use Rattle.plc_event.proofs.marks.once_of.Given as goal

abbrev pub invariant-loop-variable : goal.invariant-loop-variable
invariant-loop-variable l = OnceSoFar l.variables l.variable-index l.found l.marks
