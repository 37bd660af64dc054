-- What a replay comes to: the scans of a program over rows.
use Rattle.std.specs.Prelude.{◌≡◌, ℕ, ℤ, List, [], slice_get, option_map, unwrap_or}
use Rattle.grammar.specs.Pieces.{Text}
use Rattle.st_ast.specs.Tree.{Program}
use Rattle.st_ast.specs.Exec.{Outcome}
use Rattle.st_ast.specs.Scan.{start_memory}
use Rattle.st_ast.specs.Checks.{check_faults}
use Rattle.st_ast.specs.declared.tree.StVar.{StVar}
use Rattle.st_ast.specs.ReadsAs.{Derives}
use Rattle.st_read.specs.Refusals.{RefusalDue}
use Rattle.st_read.specs.declared.error.StErr.TheVariants as st
use Rattle.st_check.specs.Told.{IsFirst}
use Rattle.st_check.specs.declared.error.StCheckErr.TheVariants as check
use Rattle.st_scan.specs.declared.error.ScanErr.{ScanErr}
use Rattle.st_scan.specs.declared.error.ScanErr.TheVariants as scan
use Rattle.plc_rows.specs.Rows.{RowsOf}
use Rattle.plc_rows.specs.Told as told
use Rattle.plc_rows.specs.declared.error.RowErr.{RowErr}
use Rattle.plc_rows.specs.declared.error.RowErr.TheVariants as row
pub use Rattle.plc_tables.specs.Scans.{AllEnd, ComesTo, table_of}
use Rattle.plc_back.specs.Texts.{TheProgram}
use Rattle.cif_run.specs.declared.status.Status.{Status}
use Rattle.cif_run.specs.declared.status.Status.TheVariants as status
use Rattle.cif_run.specs.declared.status.StRefusal.{StRefusal}
use Rattle.cif_run.specs.declared.status.StRefusal.TheVariants as refusal

-- the name of the variable with this number
abbrev pub name_at : List StVar → ℕ → Text
name_at vars k = unwrap_or (option_map (λ (v : StVar). v.name) (slice_get vars k)) []

-- ---- files

-- the text reads as one program
abbrev pub Reads : Text → Type 0
Reads text = TheProgram text (λ p. Unit {0})

-- why the text is no program
abbrev pub IsStRefused : Text → StRefusal → Type 0
IsStRefused text (refusal.Text e) = (e ≡ st.Memory → ⊥) × RefusalDue text e
IsStRefused text (refusal.Check e) = (e ≡ check.Memory → ⊥) × ((p : Program) × Derives text p × IsFirst e (check_faults p))

-- the first rule that the rows break for the program
abbrev pub IsRowRefused : Program → Text → RowErr → Type 0
IsRowRefused p rows e = (e ≡ row.Memory → ⊥) × told.IsFirst p.vars rows e

abbrev pub AreRowsRefused : Text → Text → RowErr → Type 0
AreRowsRefused st rows e = TheProgram st (λ p. IsRowRefused p rows e)

-- The scan of the program over the row k comes to this, and those before it end.
abbrev pub Reaches : Program → Text → ℕ → Outcome → Type 0
Reaches p rows k o = (rs : List (List ℤ)) × RowsOf p.vars rows rs × ComesTo p (start_memory p) rs k o

abbrev pub StopsAt : Text → Text → ℕ → Outcome → Type 0
StopsAt st rows k o = TheProgram st (λ p. Reaches p rows k o)

-- all scans of the program over the rows end, and this is their table
abbrev pub IsTableOf : Program → Text → Text → Type 0
IsTableOf p rows text = (rs : List (List ℤ)) × RowsOf p.vars rows rs × AllEnd p rs × (text ≡ table_of p rs)

abbrev pub IsTableFor : Text → Text → Text → Type 0
IsTableFor st rows text = TheProgram st (λ p. IsTableOf p rows text)

-- ---- the status of an error

-- of a scan that stops
abbrev pub status_of_scan : ℕ → ScanErr → Status
status_of_scan k scan.Overflow = status.ScanFault k scan.Overflow
status_of_scan k scan.ZeroDivide = status.ScanFault k scan.ZeroDivide
status_of_scan k (scan.SubrangeLeft v z) = status.ScanFault k (scan.SubrangeLeft v z)
status_of_scan k scan.Budget = status.Budget k
