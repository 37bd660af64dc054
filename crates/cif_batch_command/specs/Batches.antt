-- What `batch` does.
use Rattle.std.specs.Prelude.{◌≡◌, ◌⊎◌, List}
use Rattle.grammar.specs.Pieces.{Text}
use Rattle.cif_run.specs.Works.{Content, Work}
use Rattle.cif_replay.specs.Words.{Replay, IsReplay}
use Rattle.cif_replay.specs.Judged.{Judge, judged_work}
use Rattle.cif_batch_command.specs.Words.{IsBatch}
use Rattle.cif_batch_command.specs.Words as words
use Rattle.cif_batch_command.specs.Batching.{AreTablesOf, IsCasesRefused, StopsInCases}
use Rattle.cif_batch_command.specs.declared.words.Batch.{Batch}

-- the cases of a file, over which the program makes its scans
abbrev pub cases_judge : Judge
cases_judge = record { refused = IsCasesRefused; stops = StopsInCases; writes = AreTablesOf }

-- its two files
abbrev pub files_of : words.Batch → Replay
files_of b = record { st = b.st; rows = b.cases }

abbrev pub batch_work : words.Batch → Content → Work
batch_work b content = judged_work cases_judge (files_of b) content

-- what is asked for, as the code holds it
abbrev pub batch_of : Batch → words.Batch
batch_of b = record { st = b.st.now; cases = b.cases.now }

-- the words ask for a command over a program and a file of rows or cases
abbrev pub AsksProgram : List Text → Replay → Type 0
AsksProgram ws r = IsReplay ws r ⊎ ((b : words.Batch) × IsBatch ws b × (files_of b ≡ r))
