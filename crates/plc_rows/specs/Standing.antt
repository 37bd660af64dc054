-- Helper of the code: what is left of a file behind the rows that are read, and how rows are put into cases.
use Rattle.std.specs.Prelude.{◌≡◌, ℕ, ◌<◌, ◌≤◌, ◌^◌, ℤ, true, List, length, map, flat_map, ◌++◌, nat_lt}
use Rattle.std.specs.List.{list_all, range_with_len}
use Rattle.std.specs.Borrow.{Bor}
use Rattle.grammar.specs.Pieces.{Text}
use Rattle.csv.specs.declared.reader.Reader.{Reader}
use Rattle.st_ast.specs.declared.tree.StVar.{StVar}
use Rattle.plc_rows.specs.Rows.{ScanRule, file_fault, records_of, row_values, rows_after, rows_fault, number_of_row, numbers_after}
use Rattle.plc_rows.specs.Columns.{HeaderOf}
use Rattle.plc_rows.specs.Left.{Left}
use Rattle.plc_rows.specs.Told.{cases_of, cells_of}
use Rattle.plc_rows.specs.declared.header.Column.{Column}
use Rattle.plc_rows.specs.declared.casing.Casing.{Casing}
use Rattle.plc_rows.specs.declared.row.Cases.{Cases}

-- a reader stands before the first record of a text that is short enough
abbrev pub Begins : Text → Reader (Bor (List ℕ)) → Type 0
Begins text reader = (length text ≤ 67108864) × Left reader (records_of text)

-- a header that breaks no rule has these columns, and they are few
abbrev pub IsHeader : List StVar → List Column → Type 0
IsHeader vars cols = (names : List Text) × HeaderOf vars names cols × (length names < 2 ^ 31)

-- The rows from the row k on are left, after one with the number `before`, under a header with these columns; the rows before them
-- have these values and these numbers.
unfoldable pub Stands : ScanRule → List StVar → List Column → Text → Reader (Bor (List ℕ)) → (before k : ℕ) → List (List ℤ) → List ℕ → Type 0
Stands scan vars cols text reader before k done numbers = (names : List Text) × (rs : List (List Text)) × HeaderOf vars names cols × Left reader rs
    × (file_fault scan vars (records_of text) ≡ rows_fault scan vars names before k rs)
    × (rows_after vars (records_of text) ≡ done ++ map (row_values vars names) rs)
    × (numbers_after (records_of text) ≡ numbers ++ map (number_of_row names) rs)

-- Rows with these values and numbers are these cases, the last of which may go on.
pub record AreCut (rows : List (List ℤ)) (numbers : List ℕ) (cases : Casing) : Type 0 where
  pub rows_are : flat_map (λ c. c) (cases_of cases.whole) ++ cells_of cases.last ≡ rows
  pub numbers_are : flat_map (λ (c : List (List ℤ)). range_with_len 1 (length c)) (cases_of cases.whole) ++ range_with_len 1 (length cases.last) ≡ numbers
  pub full : list_all (λ (c : List (List ℤ)). nat_lt 0 (length c)) (cases_of cases.whole) ≡ true

-- Rows with these values and numbers are these cases.
pub record AreWhole (rows : List (List ℤ)) (numbers : List ℕ) (cases : Cases) : Type 0 where
  pub rows_are : flat_map (λ c. c) (cases_of cases.cases) ≡ rows
  pub numbers_are : flat_map (λ (c : List (List ℤ)). range_with_len 1 (length c)) (cases_of cases.cases) ≡ numbers
  pub full : list_all (λ (c : List (List ℤ)). nat_lt 0 (length c)) (cases_of cases.cases) ≡ true
