use Rattle.std.proofs.Common.{◌-◌, ◌≤◌}
use Rattle.plc_rows.proofs.Whole.{RowsStand}
use Rattle.plc_rows.proofs.reading.read_rows.Given as goal

abbrev pub invariant-loop-rows : goal.invariant-loop-rows
invariant-loop-rows l = RowsStand l.program.vars l.columns l.fn.text l.reader l.number l.rows × (l.number ≤ 100001)

abbrev pub decreases-loop-rows : goal.decreases-loop-rows
decreases-loop-rows l = 100002 - l.number
