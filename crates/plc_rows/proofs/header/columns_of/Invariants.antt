use Rattle.std.proofs.Common.{◌≡◌, ◌≤◌, ◌++◌, drop}
use Rattle.plc_rows.specs.Columns.{columns_from}
use Rattle.plc_rows.proofs.header.columns_of.Given as goal

abbrev pub invariant-loop-var : goal.invariant-loop-var
invariant-loop-var l = (l.rank ≤ l.var-index) × (l.found.items ++ columns_from l.rank (drop l.var-index l.vars) ≡ columns_from 0 l.vars)
