-- Helper of the code: what one worker did, and how the parts are put together.
use Rattle.std.specs.Prelude.{◌≡◌, ⊤, ℕ, ◌+◌, ◌*◌, ◌<◌, ◌≤◌, take, drop, length, slice_index_or, List, [], ◌∷◌, ◌++◌, Result, Ok, Err, IfOk, IfErr}
use Rattle.grammar.specs.Pieces.{Text}
use Rattle.st_ast.specs.Tree.{Program}
use Rattle.st_scan.specs.Endings.{stopped}
use Rattle.plc_rows.specs.Told.{cases_of}
use Rattle.plc_rows.specs.declared.row.Rows.{Rows}
use Rattle.cif_batch.specs.CaseTexts.{AreCaseTexts, Case, FirstStopped}
use Rattle.cif_batch.specs.declared.error.CaseErr.{CaseErr}
use Rattle.cif_batch.specs.declared.error.CaseErr.TheVariants as err

-- what came of a part of the cases
abbrev pub Part : Type 0
Part = Result (List Text) CaseErr

-- the first case that stops among these, the first of which has the number after `start`; or memory ran out
abbrev pub StopsFrom : Program → ℕ → List Case → CaseErr → Type 0
StopsFrom p start cases (err.Fault number row e) = (k : ℕ) × (number ≡ start + k) × FirstStopped p cases k row (stopped e)
StopsFrom p start cases err.Memory = ⊤

-- what a worker made of the cases with the numbers after `start`
pub record IsPart (p : Program) (start : ℕ) (cases : List Rows) (r : Part) : Type 0 where
  pub ok : IfOk r (AreCaseTexts p (cases_of cases))
  pub err : IfErr r (StopsFrom p start (cases_of cases))

-- the workers' parts: each is that of the next so many cases
pub record AreParts (p : Program) (size start : ℕ) (cases : List Rows) (parts : List Part) : Type 0 where
  pub each : (n : ℕ) (d : Part) → n < length parts → IsPart p (start + n * size) (take size (drop (n * size) cases)) (slice_index_or parts n d)
  pub all : length cases ≤ length parts * size

-- every part has texts, and these are all of them
abbrev pub Joins : List Part → List Text → Type 0
Joins [] texts = texts ≡ []
Joins (Ok ts ∷ parts) texts = (rest : List Text) × (texts ≡ ts ++ rest) × Joins parts rest
Joins (Err e ∷ parts) texts = ⊥

-- the first part without texts has this error, or memory ran out
abbrev pub StopsJoining : List Part → CaseErr → Type 0
StopsJoining parts err.Memory = ⊤
StopsJoining [] (err.Fault c r f) = ⊥
StopsJoining (Ok ts ∷ parts) (err.Fault c r f) = StopsJoining parts (err.Fault c r f)
StopsJoining (Err e ∷ parts) (err.Fault c r f) = e ≡ err.Fault c r f
