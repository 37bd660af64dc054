-- What `replay` does.
use Rattle.grammar.specs.Pieces.{Text}
use Rattle.st_ast.specs.Tree.{Program}
use Rattle.cif_run.specs.declared.status.Status.{Status}
use Rattle.cif_run.specs.Works.{Content, Work}
use Rattle.cif_replay.specs.Words.{Replay as Asked}
use Rattle.cif_replay.specs.Replaying.{IsRowRefused, IsTableOf, Reaches}
use Rattle.cif_replay.specs.Judged.{Judge, JudgeEnds, JudgedEnds, judged_work}
pub use Rattle.cif_replay.specs.Judged.{OfBoth, OfFirst, rows_input, rows_limit, st_input, st_limit}
use Rattle.cif_replay.specs.declared.words.Replay.{Replay}

-- the rows of a file, over which the program makes its scans
abbrev pub rows_judge : Judge
rows_judge = record { refused = IsRowRefused; stops = Reaches; writes = IsTableOf }

abbrev pub ReplayEnds : Content → Asked → Status → Text → Type 0
ReplayEnds content r s name = JudgedEnds rows_judge content r s name

abbrev pub replay_work : Asked → Content → Work
replay_work r content = judged_work rows_judge r content

-- there is no table of the scans over a text of rows
abbrev pub RowsEnds : Program → Text → Status → Type 0
RowsEnds p rows s = JudgeEnds rows_judge p rows s

-- what is asked for, as the code holds it
abbrev pub replay_of : Replay → Asked
replay_of r = record { st = r.st.now; rows = r.rows.now }
