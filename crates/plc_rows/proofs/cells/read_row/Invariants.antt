use Rattle.std.proofs.Common.{◌≡◌, ◌+◌, drop, length, pos}
use Rattle.std.specs.Prelude.{replicate}
use Rattle.csv.specs.Records.{fields_of}
use Rattle.plc_rows.specs.Columns.{columns_fault, rule_of, with_cells}
use Rattle.plc_rows.proofs.cells.read_row.Given as goal

abbrev pub invariant-loop-j : goal.invariant-loop-j
invariant-loop-j l = (length l.cells ≡ l.inputs)
    × (columns_fault (rule_of l.numbering) l.number (l.j + 1) (drop l.j l.columns) (drop l.j (fields_of l.row)) ≡ columns_fault (rule_of l.numbering) l.number 1 l.columns (fields_of l.row))
    × (with_cells (drop l.j l.columns) (drop l.j (fields_of l.row)) l.cells ≡ with_cells l.columns (fields_of l.row) (replicate l.inputs (pos 0)))
