use Rattle.std.proofs.Common.{◌≡◌, ◌++◌, ◌+◌, drop}
use Rattle.plc_rows.specs.Table.{output_table, lines_text}
use Rattle.st_ast.specs.Interface.{outputs_of}
use Rattle.plc_rows.specs.Told.{cells_of}
use Rattle.plc_rows.proofs.table.rows_text.Given as goal

abbrev pub invariant-loop-i : goal.invariant-loop-i
invariant-loop-i l = l.text.items ++ lines_text (outputs_of l.program.vars) (l.i + 1) (cells_of (drop l.i l.scans)) ≡ output_table l.program.vars (cells_of l.scans)
