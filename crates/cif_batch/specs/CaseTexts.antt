-- What a list of cases comes to, each by itself from the declared memory of the program: the table of each, or the first
-- case in order that ends with a fault or out of turns, with its row. Nothing here tells of workers.
use Rattle.std.specs.Prelude.{◌≡◌, ⊤, ℕ, suc, ◌+◌, ◌-◌, ℤ, List, ◌∷◌, ◌++◌, map, flat_map, length, take}
use Rattle.std.specs.List.{AllByRecursion}
use Rattle.grammar.specs.Pieces.{Text}
use Rattle.st_ast.specs.Tree.{Program}
use Rattle.st_ast.specs.Exec.{Outcome, Ended}
use Rattle.st_ast.specs.Values.{Memory}
use Rattle.st_ast.specs.Scan.{start_memory}
use Rattle.st_scan.specs.Endings.{stopped}
use Rattle.plc_tables.specs.Scans.{AllEnd, ComesTo, table_of}
use Rattle.cif_batch.specs.declared.error.CaseErr.{CaseErr}
use Rattle.cif_batch.specs.declared.error.CaseErr.TheVariants as err

-- the rows of a case
abbrev pub Case : Type 0
Case = List (List ℤ)

-- every case ends
abbrev pub AllCasesEnd : Program → List Case → Type 0
AllCasesEnd p cases = AllByRecursion (AllEnd p) cases

-- the table of each
abbrev pub case_texts : Program → List Case → List Text
case_texts p cases = map (table_of p) cases

-- Every case ends, and these are their tables, in the order of the cases.
pub record AreCaseTexts (p : Program) (cases : List Case) (texts : List Text) : Type 0 where
  pub all : AllCasesEnd p cases
  pub texts_are : texts ≡ case_texts p cases

-- The cases before this one, counted from 1, end, and its scan of that row, counted from 1 in the case, comes to this.
pub record FirstStopped (p : Program) (cases : List Case) (number row : ℕ) (o : Outcome) : Type 0 where
  pub before : List Case
  pub case : Case
  pub after : List Case
  pub split : cases ≡ before ++ case ∷ after
  pub number_is : number ≡ suc (length before)
  pub ended : AllCasesEnd p before
  pub comes : ComesTo p (start_memory p) case row o
  pub stops : (left : ℕ) (m : Memory) → o ≡ Ended left m → ⊥

-- The error is the first case that stops, or want of memory.
abbrev pub IsFirstStopped : Program → List Case → CaseErr → Type 0
IsFirstStopped p cases (err.Fault number row e) = FirstStopped p cases number row (stopped e)
IsFirstStopped p cases err.Memory = ⊤

-- the row of the file, counted from 1 over all cases, of a row of the case of that number
abbrev pub row_of_file : List Case → (number row : ℕ) → ℕ
row_of_file cases number row = length (flat_map (λ c. c) (take (number - 1) cases)) + row

-- the tables one after the other
abbrev pub cases_text : Program → List Case → Text
cases_text p cases = flat_map (table_of p) cases
