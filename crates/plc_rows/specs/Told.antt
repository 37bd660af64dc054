-- What is told of a rows file and of a cases file.
use Rattle.std.specs.Prelude.{◌≡◌, ⊤, ℤ, List, map, Option, Some}
use Rattle.grammar.specs.Pieces.{Text}
use Rattle.plc_rows.specs.Rows.{RowFault, header, cell, row_length, too_many_rows, case_boundary, first_row_fault, first_case_fault}
use Rattle.st_ast.specs.declared.tree.StVar.{StVar}
use Rattle.plc_rows.specs.declared.row.Row.{Row}
use Rattle.plc_rows.specs.declared.row.Rows.{Rows}
use Rattle.plc_rows.specs.declared.error.RowErr.{RowErr}
use Rattle.plc_rows.specs.declared.error.RowErr.TheVariants as err

-- the error tells of the fault, or of want of memory
abbrev pub Tells : Option RowFault → RowErr → Type 0
Tells fault (err.Header c) = fault ≡ Some (header c)
Tells fault (err.Cell r c) = fault ≡ Some (cell r c)
Tells fault (err.RowLength r) = fault ≡ Some (row_length r)
Tells fault (err.TooManyRows n) = fault ≡ Some (too_many_rows n)
Tells fault (err.CaseBoundary r) = fault ≡ Some (case_boundary r)
Tells fault err.Memory = ⊤

-- the error is the first broken rule of a rows file, or want of memory
abbrev pub IsFirst : List StVar → Text → RowErr → Type 0
IsFirst vars text e = Tells (first_row_fault vars text) e

-- the error is the first broken rule of a cases file, or want of memory
abbrev pub IsFirstCase : List StVar → Text → RowErr → Type 0
IsFirstCase vars text e = Tells (first_case_fault vars text) e

-- the values of rows
abbrev pub cells_of : List Row → List (List ℤ)
cells_of = map (λ (r : Row). r.cells)

-- the values of the rows of cases
abbrev pub cases_of : List Rows → List (List (List ℤ))
cases_of = map (λ (r : Rows). cells_of r.rows)
