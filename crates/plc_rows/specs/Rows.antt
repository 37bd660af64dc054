-- The rules of a rows file and of a cases file for a program: the records of the text, as `csv` has them, are the header,
-- which is the field `scan` and the names of the inputs in any order, and then the rows, which are counted from 1. A cell in
-- the column of an input is a value of its type. The two kinds of file differ in the column `scan` alone, whose rule is a
-- parameter: in a rows file its cell is the number of the row; in a cases file it is a number from 1 to 100,000, with 1
-- where a case begins, and else one more than in the row before.
use Rattle.std.specs.Prelude.{◌≡◌, ℕ, suc, ◌+◌, ◌==◌, nat_lt, nat_eq, ℤ, pos, neg_ℤ, Bool, false, true, not, ◌&&◌, ◌||◌, List, [], ◌∷◌, ◌++◌, codes, decimal, map, flat_map, find, length, Option, Some, None, is_some, unwrap_or, if◌then◌else◌}
use Rattle.std.specs.Fmt.{signed_decimal}
use Rattle.std.specs.List.{list_all, list_any, range_with_len, AllByRecursion}
use Rattle.std.specs.Option.{option_or}
use Rattle.grammar.specs.Bytes.{digits_from}
use Rattle.grammar.specs.Pieces.{Text, same}
use Rattle.csv.specs.Reading.{default_config, records, strip_bom}
use Rattle.st_ast.specs.Interface.{inputs_of, is_of_type, AreOfTypes}
use Rattle.st_ast.specs.declared.tree.StVar.{StVar}
use Rattle.st_ast.specs.declared.tree.StTy.{StTy}
use Rattle.st_ast.specs.declared.tree.StTy.TheVariants as ty

-- What breaks a rule. Columns and rows are counted from 1.
pub data RowFault : Type 0 where
  header : (column : ℕ) → RowFault
  cell : (row column : ℕ) → RowFault
  row_length : (row : ℕ) → RowFault
  too_many_rows : (count : ℕ) → RowFault
  case_boundary : (row : ℕ) → RowFault

-- the most rows of a file
abbrev pub most_rows : ℕ
most_rows = 100000

-- What the header has, each once and in any order, by its exact spelling. An input that is spelled `scan` has no column of
-- its own, so that no header has all that is wanted.
abbrev pub wanted : List StVar → List Text
wanted vars = codes "scan" ∷ map (λ (v : StVar). v.name) (inputs_of vars)

abbrev pub has_text : List Text → Text → Bool
has_text ts t = list_any (same t) ts

-- The first field, from the column k on, that is not wanted or repeats one before it; and where there is none, the place
-- after the last field where something wanted is missing.
abbrev pub fields_fault : List Text → List Text → ℕ → List Text → Option RowFault
fields_fault names before k [] = if nat_lt (length before) (length names) then Some (header k) else None
fields_fault names before k (f ∷ fs) =
    if has_text names f && not (has_text before f) then fields_fault names (before ++ f ∷ []) (suc k) fs else Some (header k)

abbrev pub header_fault : List StVar → List Text → Option RowFault
header_fault vars fields = fields_fault (wanted vars) [] 1 fields

-- ---- cells

abbrev pub truth_cell : Text → Option ℤ
truth_cell t =
    if has_text (codes "TRUE" ∷ codes "true" ∷ codes "1" ∷ []) t then Some (pos 1)
    else (if has_text (codes "FALSE" ∷ codes "false" ∷ codes "0" ∷ []) t then Some (pos 0) else None)

-- the number that digits, perhaps with `-` before them, stand for
abbrev pub number_in : Text → ℤ
number_in [] = pos 0
number_in (b ∷ t) = if b == 45 then neg_ℤ (pos (digits_from 0 t)) else pos (digits_from 0 (b ∷ t))

-- a canonical decimal of a number that passes the test
abbrev pub number_cell : (ℤ → Bool) → Text → Option ℤ
number_cell test t = if same t (signed_decimal (number_in t)) && test (number_in t) then Some (number_in t) else None

-- the value of a cell in the column of an input of that type
abbrev pub cell_value : StTy → Text → Option ℤ
cell_value ty.Bool t = truth_cell t
cell_value ty.Lint t = number_cell (is_of_type ty.Lint) t
cell_value (ty.Range lo hi) t = number_cell (is_of_type (ty.Range lo hi)) t

-- the input with this name
abbrev pub input_named : List StVar → Text → Option StVar
input_named vars name = find (λ (v : StVar). same v.name name) (inputs_of vars)

-- The rule of the column `scan`: whether a text may stand there in the row k, and whether a row with the number `this` may
-- stand after one with the number `before`, which is 0 for the first row.
pub record ScanRule : Type 0 where
  pub stands : (k : ℕ) → Text → Bool
  pub follows : (before this : ℕ) → Bool

-- the rule of rows files
abbrev pub row_number : ScanRule
row_number = record { stands = λ k c. same c (decimal k); follows = λ before this. true }

-- the numbers that the rows of cases may have
abbrev pub case_numbers : StTy
case_numbers = ty.Range (pos 1) (pos 100000)

-- the rule of cases files: a row begins a case, or is the next one of its case
abbrev pub case_number : ScanRule
case_number = record {
  stands = λ k c. is_some (cell_value case_numbers c);
  follows = λ before this. nat_eq this 1 || nat_eq this (suc before);
}

-- the cell in the column of this name
abbrev pub cell_under : Text → List Text → List Text → Text
cell_under name [] cs = []
cell_under name (n ∷ ns) [] = []
cell_under name (n ∷ ns) (c ∷ cs) = if same n name then c else cell_under name ns cs

-- the number in the column `scan`
abbrev pub number_of_row : List Text → List Text → ℕ
number_of_row names cs = digits_from 0 (cell_under (codes "scan") names cs)

-- the cell of the row k in the column of this name
abbrev pub cell_stands : ScanRule → List StVar → ℕ → Text → Text → Bool
cell_stands scan vars k name c =
    if same name (codes "scan") then scan.stands k c
    else elim (input_named vars name) [ None ↦ false | Some v ↦ is_some (cell_value v.ty c) ]

-- the first wrong cell, from the column j on
abbrev pub cells_fault : ScanRule → List StVar → ℕ → ℕ → List Text → List Text → Option RowFault
cells_fault scan vars k j [] cs = None
cells_fault scan vars k j (name ∷ names) [] = None
cells_fault scan vars k j (name ∷ names) (c ∷ cs) =
    if cell_stands scan vars k name c then cells_fault scan vars k (suc j) names cs else Some (cell k j)

-- the row k, whose number may not stand after the number `before`
abbrev pub boundary_fault : ScanRule → (before k : ℕ) → List Text → List Text → Option RowFault
boundary_fault scan before k names cs = if scan.follows before (number_of_row names cs) then None else Some (case_boundary k)

-- the row k after one with the number `before`: its length before its cells, and both before its boundary
abbrev pub row_fault : ScanRule → List StVar → List Text → (before k : ℕ) → List Text → Option RowFault
row_fault scan vars names before k cs =
    if nat_eq (length cs) (length names) then option_or (cells_fault scan vars k 1 names cs) (boundary_fault scan before k names cs) else Some (row_length k)

-- the rows from the row k on, after one with the number `before`; the row after the most is not looked at
abbrev pub rows_fault : ScanRule → List StVar → List Text → (before k : ℕ) → List (List Text) → Option RowFault
rows_fault scan vars names before k [] = None
rows_fault scan vars names before k (r ∷ rs) =
    if nat_lt most_rows k then Some (too_many_rows (most_rows + 1))
    else option_or (row_fault scan vars names before k r) (rows_fault scan vars names (number_of_row names r) (suc k) rs)

abbrev pub file_fault : ScanRule → List StVar → List (List Text) → Option RowFault
file_fault scan vars [] = Some (header 1)
file_fault scan vars (names ∷ rs) = option_or (header_fault vars names) (rows_fault scan vars names 0 1 rs)

-- the records of a text, after its byte order mark where it begins with one
abbrev pub records_of : Text → List (List Text)
records_of text = records default_config (strip_bom text)

-- the first broken rule of a rows file, in the order of the file
unfoldable pub first_row_fault : List StVar → Text → Option RowFault
first_row_fault vars text = file_fault row_number vars (records_of text)

-- the first broken rule of a cases file
unfoldable pub first_case_fault : List StVar → Text → Option RowFault
first_case_fault vars text = file_fault case_number vars (records_of text)

-- ---- values

-- the values of the inputs, in the order of declaration
abbrev pub row_values : List StVar → List Text → List Text → List ℤ
row_values vars names cs = map (λ (v : StVar). unwrap_or (cell_value v.ty (cell_under v.name names cs)) (pos 0)) (inputs_of vars)

abbrev pub rows_after : List StVar → List (List Text) → List (List ℤ)
rows_after vars [] = []
rows_after vars (names ∷ rs) = map (row_values vars names) rs

-- the text breaks no rule, and these are its rows
unfoldable pub RowsOf : List StVar → Text → List (List ℤ) → Type 0
RowsOf vars text rows = (first_row_fault vars text ≡ None) × (rows ≡ rows_after vars (records_of text))

-- one value for each input, in the order of declaration and of its type
abbrev pub IsRowFor : List StVar → List ℤ → Type 0
IsRowFor vars row = AreOfTypes (inputs_of vars) row

-- the rows are in range for a program with these variables
abbrev pub AreRowsFor : List StVar → List (List ℤ) → Type 0
AreRowsFor vars rows = AllByRecursion (IsRowFor vars) rows

-- ---- cases

-- the numbers of the rows
abbrev pub numbers_after : List (List Text) → List ℕ
numbers_after [] = []
numbers_after (names ∷ rs) = map (number_of_row names) rs

-- The text breaks no rule, and these are its cases: none is empty, one after the other they are the rows, and the rows of
-- each are numbered from 1 on.
pub record CasesOf (vars : List StVar) (text : Text) (cases : List (List (List ℤ))) : Type 0 where
  pub right : first_case_fault vars text ≡ None
  pub rows : flat_map (λ c. c) cases ≡ rows_after vars (records_of text)
  pub numbers : flat_map (λ (c : List (List ℤ)). range_with_len 1 (length c)) cases ≡ numbers_after (records_of text)
  pub full : list_all (λ (c : List (List ℤ)). nat_lt 0 (length c)) cases ≡ true

-- the rows of each case are in range for a program with these variables
abbrev pub AreCasesFor : List StVar → List (List (List ℤ)) → Type 0
AreCasesFor vars cases = AllByRecursion (AreRowsFor vars) cases
