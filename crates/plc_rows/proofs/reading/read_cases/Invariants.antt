use Rattle.std.proofs.Common.{◌-◌, ◌≤◌}
use Rattle.plc_rows.proofs.Whole.{CasesStand}
use Rattle.plc_rows.proofs.reading.read_cases.Given as goal

abbrev pub invariant-loop-cases : goal.invariant-loop-cases
invariant-loop-cases l = CasesStand l.program.vars l.columns l.fn.text l.reader l.row l.cases × (l.row ≤ 100001)

abbrev pub decreases-loop-cases : goal.decreases-loop-cases
decreases-loop-cases l = 100002 - l.row
