-- What `simulate` does.
use Rattle.std.specs.Prelude.{◌≡◌, ℕ, ◌⊎◌, Option}
use Rattle.grammar.specs.Pieces.{Text}
use Rattle.cif_system.specs.System.{System}
use Rattle.cif_sim_model.specs.Names.{Names}
use Rattle.cif_sim_model.specs.Simulation.{Runs, script_text, first_text}
use Rattle.cif_sim_names.specs.Sources.{names_of}
use Rattle.cif_source.specs.Step.{system_of}
use Rattle.cif_run.specs.declared.status.Status.{Status}
use Rattle.cif_run.specs.Works.{Content, GrewByPart, Input, Work}
use Rattle.cif_accept.specs.Accepts.{FileRefused, HasSource, OfSource, source_input}
use Rattle.cif_simulate.specs.Scripts.{IsStop, OfScript, script_input}
use Rattle.cif_simulate.specs.Words.{Simulate as Asked, Which, by_script, by_first}

-- ---- the texts of runs

module _ (names : Names) (m : System) where
  -- the text is that of the run of the script, up to its end or to the line where it stops
  abbrev pub IsScriptText : (script text : Text) → Type 0
  IsScriptText script text = text ≡ script_text names m script

  -- the script runs to its end, and this is the text of its run
  abbrev pub IsRunText : (script text : Text) → Type 0
  IsRunText script text = Runs names m script × IsScriptText script text

  -- the script stops where the status says, and this is the text of its run up to there
  abbrev pub IsStopText : (script : Text) → Status → Text → Type 0
  IsStopText script s text = IsStop names m script s × IsScriptText script text

  -- the text is that of at most so many steps, each of the first event with one
  abbrev pub IsFirstText : (steps : ℕ) → Text → Type 0
  IsFirstText steps text = text ≡ first_text names m steps

-- ---- the work

-- The script is asked for only where the file before it holds a source.
abbrev pub asks_by : Content → (file : Text) → Which → Input → Type 0
asks_by content file (by_script script) i = (i ≡ source_input file) ⊎ ((i ≡ script_input script) × HasSource content file)
asks_by content file (by_first steps) i = i ≡ source_input file

abbrev pub writes_by : Content → (file : Text) → Which → Text → Type 0
writes_by content file (by_script script) text = OfScript content file script (λ t bytes. IsRunText (names_of t) (system_of t) bytes text)
writes_by content file (by_first steps) text = OfSource content file (λ t. IsFirstText (names_of t) (system_of t) steps text)

abbrev pub parts_by : Content → (file : Text) → Which → Text → Type 0
parts_by content file (by_script script) text = OfScript content file script (λ t bytes. IsScriptText (names_of t) (system_of t) bytes text)
parts_by content file (by_first steps) text = OfSource content file (λ t. IsFirstText (names_of t) (system_of t) steps text)

abbrev pub halts_by : Content → (file : Text) → Which → Status → Text → Type 0
halts_by content file (by_script script) s text = OfScript content file script (λ t bytes. IsStopText (names_of t) (system_of t) bytes s text)
halts_by content file (by_first steps) s text = ⊥

-- the run of a script, or up to where it stops, has beginnings that may be written
abbrev pub whole_begins_by : (content : Content) (file : Text) (w : Which) (text : Text) → writes_by content file w text → parts_by content file w text
whole_begins_by content file (by_script script) text h = (h.0, h.1, (h.2.0, h.2.1, h.2.2, h.2.3.1))
whole_begins_by content file (by_first steps) text h = h

abbrev pub halted_begins_by : (content : Content) (file : Text) (w : Which) (s : Status) (text : Text) → halts_by content file w s text → parts_by content file w text
halted_begins_by content file (by_script script) s text h = (h.0, h.1, (h.2.0, h.2.1, h.2.2, h.2.3.1))
halted_begins_by content file (by_first steps) s text h = absurd h

-- It writes the lines of a run, by the names of the source, and each before it looks at the next line of the script or makes the next
-- step. It ends early where the source is refused or the script stops.
abbrev pub simulate_work : Asked → Content → Work
simulate_work r content = record {
  asks = asks_by content r.file r.which;
  writes = writes_by content r.file r.which;
  parts = parts_by content r.file r.which;
  ends = FileRefused content r.file;
  halts = halts_by content r.file r.which;
  whole_begins = whole_begins_by content r.file r.which;
  halted_begins = halted_begins_by content r.file r.which;
}

-- what was written grew by a beginning of the text of the run, up to its end or to the line where it stops
abbrev pub IsPartOfRun : Content → Asked → (old new : Option Text) → Type 0
IsPartOfRun content q old new = (text : Text) × parts_by content q.file q.which text × GrewByPart text old new
