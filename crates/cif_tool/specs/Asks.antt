-- What words ask for, and what the clauses of the tool are made of.
use Rattle.std.specs.Prelude.{◌≡◌, ℕ, ◌⊎◌, List, Option, Some}
use Rattle.grammar.specs.Pieces.{Text}
use Rattle.cif_io.specs.Faults.{Rose}
use Rattle.st_ast.specs.Exec.{Outcome}
use Rattle.plc_rows.specs.declared.error.RowErr.{RowErr}
use Rattle.cif_run.specs.declared.status.Status.{Status}
use Rattle.cif_run.specs.declared.status.Status.TheVariants as status
use Rattle.cif_run.specs.Works.{Content, Work}
use Rattle.cif_source.specs.Source.{Source}
use Rattle.cif_generate.specs.Words.{Generate, IsGenerate}
use Rattle.cif_generate.specs.Generates.{Writes}
use Rattle.cif_replay.specs.Words.{Replay, IsReplay}
use Rattle.cif_replay.specs.Judged.{OfBoth}
use Rattle.cif_replay.specs.Replaying.{AreRowsRefused, StopsAt}
use Rattle.cif_batch_command.specs.Words.{Batch, IsBatch}
use Rattle.cif_batch_command.specs.Batching.{AreCasesRefused, CaseStopsAt}
use Rattle.cif_batch_command.specs.Batches.{AsksProgram, files_of}
use Rattle.cif_why_command.specs.Words.{Why, IsWhy}
use Rattle.cif_why_command.specs.Explains.{LacksEvent}
use Rattle.cif_tool.specs.Commands.{Command, Request, IsFor, work_of, script_of, source_of}

-- a command, and what it is asked for
pub record Asked : Type 0 where
  pub command : Command
  pub request : Request command

-- the command lines; other words are none
abbrev pub IsAsked : List Text → Asked → Type 0
IsAsked words a = IsFor a.command words a.request

abbrev pub NoCommand : List Text → Type 0
NoCommand words = (a : Asked) → IsAsked words a → ⊥

-- What the tool does: what the command does that the words ask for. Where they ask for nothing, it ends with `Usage`.
abbrev pub tool_work : List Text → Content → Work
tool_work words content = record {
  asks = λ i. (a : Asked) × IsAsked words a × (work_of a.command a.request content).asks i;
  writes = λ text. (a : Asked) × IsAsked words a × (work_of a.command a.request content).writes text;
  parts = λ text. (a : Asked) × IsAsked words a × (work_of a.command a.request content).parts text;
  ends = λ s name. ((a : Asked) × IsAsked words a × (work_of a.command a.request content).ends s name) ⊎ ((s ≡ status.Usage) × NoCommand words);
  halts = λ s text. (a : Asked) × IsAsked words a × (work_of a.command a.request content).halts s text;
  whole_begins = λ text h. (h.0, h.1, (work_of h.0.command h.0.request content).whole_begins text h.2);
  halted_begins = λ s text h. (h.0, h.1, (work_of h.0.command h.0.request content).halted_begins s text h.2);
}

-- no count of faults of the two files rose
abbrev pub Quiet : (one other : Text) → (before after : Text → ℕ) → Type 0
Quiet one other before after = (Rose (before one) (after one) → ⊥) × (Rose (before other) (after other) → ⊥)

-- ---- a source

-- the words ask for a command over the source in this file
abbrev pub AsksSource : List Text → Text → Type 0
AsksSource words file = (a : Asked) × IsAsked words a × (source_of a.command a.request ≡ Some file)

-- the same, and the file is told to hold these bytes
abbrev pub NamesSource : List Text → Content → Text → Text → Type 0
NamesSource words content file bytes = AsksSource words file × (content file ≡ Some bytes)

-- after Done of `generate`: its file holds a source, and what was written is as P says of the command and the source
abbrev pub Generated : Status → List Text → Content → Option Text → Option Text → (Generate → Source → Text → Type 0) → Type 0
Generated s words content old new P = s ≡ status.Done → (g : Generate) → IsGenerate words g → Writes content g.file old new (P g)

-- ---- a script

-- the words ask for a command over the source and the script in these files
abbrev pub AsksScript : List Text → (file script : Text) → Type 0
AsksScript words file script =
    (a : Asked) × IsAsked words a × (source_of a.command a.request ≡ Some file) × (script_of a.command a.request ≡ Some script)

-- the same, and the files are told to hold these bytes
abbrev pub NamesScript : List Text → Content → (file script bytes us : Text) → Type 0
NamesScript words content file script bytes us = AsksScript words file script × (content file ≡ Some bytes) × (content script ≡ Some us)

-- the words ask for no script
abbrev pub AsksNoScript : List Text → Type 0
AsksNoScript words = (file script : Text) → AsksScript words file script → ⊥

-- the words ask for the reasons of an event, and no event of the source has its path
abbrev pub AsksUnknown : List Text → Source → Type 0
AsksUnknown words t = (q : Why) × IsWhy words q × LacksEvent t q.event

-- ---- a program, and rows or cases

-- the words ask for a command over a program and a second file, and the files are told to hold these bytes
abbrev pub NamesProgram : List Text → Content → Replay → Text → Type 0
NamesProgram words content r st = AsksProgram words r × (content r.st ≡ Some st)

abbrev pub NamesSecond : List Text → Content → Replay → Text → Text → Type 0
NamesSecond words content r st second = AsksProgram words r × (content r.st ≡ Some st) × (content r.rows ≡ Some second)

-- the same of `replay`
abbrev pub NamesBoth : List Text → Content → Replay → Text → Text → Type 0
NamesBoth words content r st rows = IsReplay words r × (content r.st ≡ Some st) × (content r.rows ≡ Some rows)

-- the same of `batch`
abbrev pub NamesCases : List Text → Content → Batch → Text → Text → Type 0
NamesCases words content b st cases = IsBatch words b × (content b.st ≡ Some st) × (content b.cases ≡ Some cases)

-- this is the first rule that the rows of `replay` or the cases of `batch` break
abbrev pub RowsAreRefused : List Text → Content → RowErr → Type 0
RowsAreRefused words content why = ((r : Replay) × IsReplay words r × OfBoth content r (λ st rows. AreRowsRefused st rows why))
    ⊎ ((b : Batch) × IsBatch words b × OfBoth content (files_of b) (λ st cases. AreCasesRefused st cases why))

-- The scan of the row k, the first of `replay` or of the first case of `batch` that does not end, comes to this. Rows are counted from 1
-- in the file.
abbrev pub ScanStopsAt : List Text → Content → (k : ℕ) → Outcome → Type 0
ScanStopsAt words content k o = ((r : Replay) × IsReplay words r × OfBoth content r (λ st rows. StopsAt st rows k o))
    ⊎ ((b : Batch) × IsBatch words b × OfBoth content (files_of b) (λ st cases. CaseStopsAt st cases k o))
