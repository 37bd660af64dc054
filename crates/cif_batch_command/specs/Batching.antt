-- What a batch comes to: the scans of a program over the rows of each case.
use Rattle.std.specs.Prelude.{◌≡◌, ⊤, ℕ, List}
use Rattle.grammar.specs.Pieces.{Text}
use Rattle.st_ast.specs.Tree.{Program}
use Rattle.st_ast.specs.Exec.{Outcome, OutOfTurns}
use Rattle.st_scan.specs.Endings.{stopped}
use Rattle.st_scan.specs.declared.error.ScanErr.TheVariants as scan
use Rattle.plc_rows.specs.Rows.{CasesOf}
use Rattle.plc_rows.specs.Told.{IsFirstCase}
use Rattle.plc_rows.specs.declared.error.RowErr.{RowErr}
use Rattle.plc_rows.specs.declared.error.RowErr.TheVariants as row
use Rattle.plc_back.specs.Texts.{TheProgram}
use Rattle.cif_run.specs.declared.status.Status.{Status}
use Rattle.cif_run.specs.declared.status.Status.TheVariants as status
use Rattle.cif_batch.specs.CaseTexts.{AllCasesEnd, Case, FirstStopped, cases_text, row_of_file}

-- the first rule that the cases break for the program
abbrev pub IsCasesRefused : Program → Text → RowErr → Type 0
IsCasesRefused p text e = (e ≡ row.Memory → ⊥) × IsFirstCase p.vars text e

-- The first case that does not end stops at the row k of the file, counted over all cases, and its scan of that row comes to this.
abbrev pub StopsInFile : Program → List Case → (k : ℕ) → Outcome → Type 0
StopsInFile p cases k o = (number : ℕ) × (row : ℕ) × FirstStopped p cases number row o × (k ≡ row_of_file cases number row)

abbrev pub StopsInCases : Program → Text → (k : ℕ) → Outcome → Type 0
StopsInCases p text k o = (cases : List Case) × CasesOf p.vars text cases × StopsInFile p cases k o

-- all cases end, and these are their tables, one after the other
abbrev pub AreTables : Program → List Case → Text → Type 0
AreTables p cases out = AllCasesEnd p cases × (out ≡ cases_text p cases)

abbrev pub AreTablesOf : Program → Text → Text → Type 0
AreTablesOf p text out = (cases : List Case) × CasesOf p.vars text cases × AreTables p cases out

-- why cases have no tables, by the status
abbrev pub CasesEnd : Program → List Case → Status → Type 0
CasesEnd p cases (status.ScanFault k e) = (e ≡ scan.Budget → ⊥) × StopsInFile p cases k (stopped e)
CasesEnd p cases (status.Budget k) = StopsInFile p cases k OutOfTurns
CasesEnd p cases status.Memory = ⊤
CasesEnd p cases _ = ⊥

-- ---- files

abbrev pub AreCasesRefused : Text → Text → RowErr → Type 0
AreCasesRefused st text e = TheProgram st (λ p. IsCasesRefused p text e)

abbrev pub CaseStopsAt : Text → Text → (k : ℕ) → Outcome → Type 0
CaseStopsAt st text k o = TheProgram st (λ p. StopsInCases p text k o)

abbrev pub AreTablesFor : Text → Text → Text → Type 0
AreTablesFor st text out = TheProgram st (λ p. AreTablesOf p text out)
