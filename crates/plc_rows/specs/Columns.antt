-- Helper of the code: the columns that the names of a header stand for, and what a row is by its columns.
use Rattle.std.specs.Prelude.{◌≡◌, ⊤, ℕ, suc, ◌+◌, ◌≤◌, nat_eq, ℤ, pos, Bool, true, List, [], ◌∷◌, length, codes, slice_set, Option, Some, None, is_some, unwrap_or, if◌then◌else◌}
use Rattle.std.specs.List.{list_any}
use Rattle.grammar.specs.Pieces.{Text, same}
use Rattle.st_ast.specs.Interface.{is_input, inputs_of}
use Rattle.st_ast.specs.declared.tree.StVar.{StVar}
use Rattle.csv.specs.Records.{field_at}
use Rattle.plc_rows.specs.Rows.{RowFault, cell, row_length, header_fault, ScanRule, row_number, case_number, case_numbers, cell_value}
use Rattle.plc_rows.specs.declared.header.Column.{Column}
use Rattle.plc_rows.specs.declared.header.Column.TheVariants as column
use Rattle.plc_rows.specs.declared.numbering.Numbering.{Numbering}
use Rattle.plc_rows.specs.declared.numbering.Numbering.TheVariants as numbering

-- the place of a column among all that is wanted
abbrev pub place : Column → ℕ
place column.Scan = 0
place (column.Input rank ty) = rank + 1

-- for each variable the column of its values, if it is an input; the next input has that rank
abbrev pub columns_from : ℕ → List StVar → List (Option Column)
columns_from rank [] = []
columns_from rank (v ∷ vs) =
    if is_input v.class then Some (column.Input rank v.ty) ∷ columns_from (rank + 1) vs else None ∷ columns_from rank vs

-- the column of a name among inputs, the first of which has that rank
abbrev pub input_column : ℕ → List StVar → Text → Option Column
input_column rank [] name = None
input_column rank (v ∷ vs) name = if same v.name name then Some (column.Input rank v.ty) else input_column (rank + 1) vs name

abbrev pub column_of : List StVar → Text → Option Column
column_of vars name = if same name (codes "scan") then Some column.Scan else input_column 0 (inputs_of vars) name

-- the columns of these names
abbrev pub ColumnsOf : List StVar → List Text → List Column → Type 0
ColumnsOf vars [] [] = ⊤
ColumnsOf vars [] (c ∷ cols) = ⊥
ColumnsOf vars (name ∷ names) [] = ⊥
ColumnsOf vars (name ∷ names) (c ∷ cols) = (column_of vars name ≡ Some c) × ColumnsOf vars names cols

-- whether a column has that place
abbrev pub is_taken : List Column → ℕ → Bool
is_taken cols p = list_any (λ c. nat_eq (place c) p) cols

-- a header that breaks no rule has these columns, one at each place
pub record HeaderOf (vars : List StVar) (names : List Text) (cols : List Column) : Type 0 where
  pub right : header_fault vars names ≡ None
  pub columns : ColumnsOf vars names cols
  pub each : (p : ℕ) → p ≤ length (inputs_of vars) → is_taken cols p ≡ true

-- ---- a row

-- the rule of the column `scan`
abbrev pub rule_of : Numbering → ScanRule
rule_of numbering.ByFile = row_number
rule_of numbering.ByCase = case_number

-- whether the cell of the row k keeps the rule of its column
abbrev pub stands : ScanRule → ℕ → Column → Text → Bool
stands scan k column.Scan t = scan.stands k t
stands scan k (column.Input rank ty) t = is_some (cell_value ty t)

-- the first wrong cell, from the column j on
abbrev pub columns_fault : ScanRule → ℕ → ℕ → List Column → List Text → Option RowFault
columns_fault scan k j [] ts = None
columns_fault scan k j (c ∷ cols) [] = None
columns_fault scan k j (c ∷ cols) (t ∷ ts) = if stands scan k c t then columns_fault scan k (suc j) cols ts else Some (cell k j)

-- the row k before its boundary: its length before its cells
abbrev pub line_fault : ScanRule → List Column → ℕ → List Text → Option RowFault
line_fault scan cols k ts = if nat_eq (length ts) (length cols) then columns_fault scan k 1 cols ts else Some (row_length k)

-- the values with that of a cell in its place
abbrev pub with_cell : Column → Text → List ℤ → List ℤ
with_cell column.Scan t zs = zs
with_cell (column.Input rank ty) t zs = slice_set zs rank (unwrap_or (cell_value ty t) (pos 0))

-- the values with those of cells, one after the other
abbrev pub with_cells : List Column → List Text → List ℤ → List ℤ
with_cells [] ts zs = zs
with_cells (c ∷ cols) [] zs = zs
with_cells (c ∷ cols) (t ∷ ts) zs = with_cells cols ts (with_cell c t zs)

-- ---- the column `scan`

-- its place, from 0 on
abbrev pub scan_place : List Column → ℕ
scan_place [] = 0
scan_place (column.Scan ∷ cols) = 0
scan_place (column.Input rank ty ∷ cols) = suc (scan_place cols)

-- the cell in that place is the number of a row in its case
abbrev pub HasNumber : List Text → ℕ → ℕ → Type 0
HasNumber ts place number = (t : Text) × (field_at ts place ≡ Some t) × (cell_value case_numbers t ≡ Some (pos number))
