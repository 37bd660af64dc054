-- What is said of the text that `generate` writes over a source: its face, its system, and the text.
use Rattle.std.specs.Prelude.{ℕ, [], Some, None, slice_get}
use Rattle.grammar.specs.Pieces.{Text}
use Rattle.cif_system.specs.System.{System, initial}
use Rattle.cif_source.specs.Objects.{events}
use Rattle.cif_source.specs.Step.{system_of}
use Rattle.cif_net_model.specs.Net.{Net}
use Rattle.cif_inst_model.specs.Flat.{net_event}
use Rattle.cif_inst_model.specs.NetRules.{UnclassedDue}
use Rattle.st_ast.specs.Tree.{Program}
use Rattle.st_ast.specs.Scan.{start_memory}
use Rattle.plc_model.specs.Face.{Face, StateOf}
use Rattle.plc_back.specs.Texts.{Makes, TheProgram}
use Rattle.plc_back.specs.Written as written
use Rattle.cif_front.specs.Loads.{Stands}
use Rattle.cif_source.specs.Source.{Source}
use Rattle.cif_generate.specs.Shown.{face_of}

-- what a program shows of it
abbrev pub shown_of : Source → Face
shown_of t = face_of t

-- what it means
abbrev pub meant_by : Source → System
meant_by t = system_of t

-- each event is controllable or uncontrollable
abbrev pub AreClassed : Source → Type 0
AreClassed t = (event : ℕ) → UnclassedDue t event → ⊥

-- the text is the printed program of the net that it is translated to, with algebraic variables replaced by their definitions, which
-- means the same, with these most rounds of each class in a scan
pub record IsTextOf (unc con : ℕ) (t : Source) (text : Text) : Type 0 where
  pub net : Net
  pub stands : Stands net t
  pub of_net : written.IsTextOf net unc con text

-- the text is written for the source: it is that text, and reads as one program, which makes the scans of the source
pub record IsWrittenFor (unc con : ℕ) (t : Source) (text : Text) : Type 0 where
  pub text_of : IsTextOf unc con t text
  pub makes : TheProgram text (Makes unc con (shown_of t) (meant_by t) text)

-- the memory of the declarations stands for the initial state
abbrev pub StartsInitial : Face → System → Program → Type 0
StartsInitial face sys p = StateOf face sys p (start_memory p) (initial sys)

-- the path of an event
abbrev pub event_path : Source → (event : ℕ) → Text
event_path t event = elim (slice_get (events t) event) [ None ↦ [] | Some d ↦ (net_event d).path ]
