use Rattle.std.proofs.Common.{◌≡◌, length}
use Rattle.std.specs.Prelude.{All}
use Rattle.plc_rows.specs.declared.row.Row.{Row}
use Rattle.lib_cases.proofs.tables.rows.Given as goal

abbrev pub invariant-loop-field : goal.invariant-loop-field
invariant-loop-field l = All (λ (row : Row). length row.cells ≡ l.count) l.all
