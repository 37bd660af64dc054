-- What a command does over a file that should hold a program and a second one that is judged for the program.
use Rattle.std.specs.Prelude.{◌≡◌, ⊤, ℕ, ◌≤◌, ◌⊎◌, length}
use Rattle.grammar.specs.Pieces.{Text}
use Rattle.st_ast.specs.Tree.{Program}
use Rattle.st_ast.specs.Exec.{Outcome, OutOfTurns}
use Rattle.st_scan.specs.Endings.{stopped}
use Rattle.st_scan.specs.declared.error.ScanErr.TheVariants as scan
use Rattle.plc_rows.specs.declared.error.RowErr.{RowErr}
use Rattle.plc_back.specs.Texts.{TheProgram}
use Rattle.cif_run.specs.declared.status.Status.{Status}
use Rattle.cif_run.specs.declared.status.Status.TheVariants as status
use Rattle.cif_run.specs.Works.{Content, Holds, Input, Work, whole_work}
use Rattle.cif_replay.specs.Words.{Replay as Asked}
use Rattle.cif_replay.specs.Replaying.{IsStRefused, Reads}
use Rattle.cif_replay.specs.Ends.{IsNamedBy}

-- How a command judges the text of a second file for a program.
pub record Judge : Type 1 where
  -- this rule is the first that the text breaks
  pub refused : Program → Text → RowErr → Type 0
  -- the scan of the row k of the text, the first that does not end, comes to this
  pub stops : Program → Text → (k : ℕ) → Outcome → Type 0
  -- all scans end, and this is what is written
  pub writes : Program → Text → Text → Type 0

-- the most bytes of a program and of the second file
abbrev pub st_limit : ℕ
st_limit = 16777216

abbrev pub rows_limit : ℕ
rows_limit = 67108864

abbrev pub st_input : Asked → Input
st_input r = record { word = 1; name = r.st; limit = st_limit }

abbrev pub rows_input : Asked → Input
rows_input r = record { word = 2; name = r.rows; limit = rows_limit }

-- the first file holds a text that is short enough, and this is so of it
abbrev pub OfFirst : Content → Asked → (Text → Type 0) → Type 0
OfFirst content r P = (st : Text) × Holds (content r.st) st × (length st ≤ st_limit) × P st

-- both files hold texts that are short enough, and this is so of them
abbrev pub OfBoth : Content → Asked → (Text → Text → Type 0) → Type 0
OfBoth content r P = (st : Text) × (rows : Text) × Holds (content r.st) st × Holds (content r.rows) rows
    × (length st ≤ st_limit) × (length rows ≤ rows_limit) × P st rows

-- the second text breaks this rule first, for the program in the first
abbrev pub AreRefused : Judge → Text → Text → RowErr → Type 0
AreRefused j st rows e = TheProgram st (λ p. j.refused p rows e)

abbrev pub Stop : Judge → Text → Text → ℕ → Outcome → Type 0
Stop j st rows k o = TheProgram st (λ p. j.stops p rows k o)

abbrev pub Write : Judge → Text → Text → Text → Type 0
Write j st rows text = TheProgram st (λ p. j.writes p rows text)

-- How it may end without a text. A scan is told only where the one before it ended, and of a scan out of turns another status
-- tells.
abbrev pub JudgedEnds : Judge → Content → Asked → Status → Text → Type 0
JudgedEnds j content r (status.StRefused why) name = OfFirst content r (λ st. IsStRefused st why × IsNamedBy st (status.StRefused why) name)
JudgedEnds j content r (status.RowRefused why) name = OfBoth content r (λ st rows. AreRefused j st rows why)
JudgedEnds j content r (status.ScanFault k e) name = (e ≡ scan.Budget → ⊥)
    × OfBoth content r (λ st rows. Stop j st rows k (stopped e) × IsNamedBy st (status.ScanFault k e) name)
JudgedEnds j content r (status.Budget k) name = OfBoth content r (λ st rows. Stop j st rows k OutOfTurns)
JudgedEnds j content r _ name = ⊥

-- The second file is asked for only where the first reads as a program.
abbrev pub judged_work : Judge → Asked → Content → Work
judged_work j r content = whole_work
    (λ i. (i ≡ st_input r) ⊎ ((i ≡ rows_input r) × OfFirst content r Reads))
    (λ text. OfBoth content r (λ st rows. Write j st rows text))
    (JudgedEnds j content r)

-- why the second text gives nothing, by the status
abbrev pub JudgeEnds : Judge → Program → Text → Status → Type 0
JudgeEnds j p rows (status.RowRefused e) = j.refused p rows e
JudgeEnds j p rows (status.ScanFault k e) = (e ≡ scan.Budget → ⊥) × j.stops p rows k (stopped e)
JudgeEnds j p rows (status.Budget k) = j.stops p rows k OutOfTurns
JudgeEnds j p rows status.Memory = ⊤
JudgeEnds j p rows _ = ⊥
