-- What `why` does.
use Rattle.std.specs.Prelude.{◌≡◌, ℕ, ◌⊎◌, [], Option, None, Some, option_map}
use Rattle.grammar.specs.Pieces.{Text}
use Rattle.cif_system.specs.System.{System}
use Rattle.cif_sim_model.specs.Names.{Names}
use Rattle.cif_sim_model.specs.Script.{number_of}
use Rattle.cif_sim_model.specs.Simulation.{Runs, state_reached}
use Rattle.cif_why_model.specs.Told.{Told}
use Rattle.cif_why_model.specs.Reasons.{reasons_of}
use Rattle.cif_why_model.specs.Lines.{reasons_text}
use Rattle.cif_sim_names.specs.Sources.{names_of, told_of}
use Rattle.cif_source.specs.Source.{Source}
use Rattle.cif_source.specs.Step.{system_of}
use Rattle.cif_run.specs.declared.status.Status.{Status}
use Rattle.cif_run.specs.declared.status.Status.TheVariants as status
use Rattle.cif_run.specs.Works.{Content, Work}
use Rattle.cif_accept.specs.Accepts.{FileRefused, OfSource, source_input}
use Rattle.cif_simulate.specs.Scripts.{IsStop, OfScript, script_input}
use Rattle.cif_why_command.specs.Words.{Why}

-- ---- an event and its reasons

-- the number of the event with this path
abbrev pub event_of : Names → Text → Option ℕ
event_of names path = option_map (λ x. x.0) (number_of (λ p. p) path names.events)

-- a line for each reason why the event has no step in the state that the script reaches, or one that there is none
abbrev pub explained : Names → System → Told → (script : Text) → (event : ℕ) → Text
explained names m told script event = reasons_text told (reasons_of m told (state_reached names m script) event)

module _ (names : Names) (m : System) (told : Told) (event : ℕ) (script : Text) where
  -- the script runs to its end, and this is the text of the reasons
  abbrev pub IsReasonsText : Text → Type 0
  IsReasonsText text = Runs names m script × (text ≡ explained names m told script event)

  -- the script stops where the status says, and nothing is written
  abbrev pub IsSilentStop : Status → Text → Type 0
  IsSilentStop s text = IsStop names m script s × (text ≡ [])

  -- a text that may be written: of reasons, or nothing where the script stops
  pub data IsBegun (text : Text) : Type 0 where
    of_reasons : IsReasonsText text → IsBegun text
    of_stop : (s : Status) → IsSilentStop s text → IsBegun text

  -- what is written of a script
  abbrev pub reasons_work : Work
  reasons_work = record {
    asks = λ i. ⊥;
    writes = IsReasonsText;
    parts = IsBegun;
    ends = λ s name. ⊥;
    halts = IsSilentStop;
    whole_begins = λ text h. of_reasons h;
    halted_begins = λ s text h. of_stop s h;
  }

-- ---- the work

-- an event of the source has this path, and this is so of its number
abbrev pub OfEvent : Source → (path : Text) → (ℕ → Type 0) → Type 0
OfEvent t path P = (number : ℕ) × (event_of (names_of t) path ≡ Some number) × P number

-- the source has an event with the path, and the script runs or stops so
abbrev pub Explains : Content → Why → (Work → Type 0) → Type 0
Explains content q P = OfScript content q.file q.script
    (λ t bytes. OfEvent t q.event (λ number. P (reasons_work (names_of t) (system_of t) (told_of t) number bytes)))

-- no event of the source has this path
abbrev pub LacksEvent : Source → (path : Text) → Type 0
LacksEvent t path = event_of (names_of t) path ≡ None

-- Of the source in the first file it writes the reasons why the event has no step in the state that the script in the second reaches. The
-- script is asked for only where the first file holds a source with such an event. It ends early where the source is refused, where no
-- event has the path, or where the script stops, and then writes nothing.
abbrev pub why_work : Why → Content → Work
why_work q content = record {
  asks = λ i. (i ≡ source_input q.file) ⊎ ((i ≡ script_input q.script) × OfSource content q.file (λ t. OfEvent t q.event (λ number. Unit {0})));
  writes = λ text. Explains content q (λ w. w.writes text);
  parts = λ text. Explains content q (λ w. w.parts text);
  ends = λ s name. FileRefused content q.file s name ⊎ ((s ≡ status.NoEvent) × OfSource content q.file (λ t. LacksEvent t q.event));
  halts = λ s text. Explains content q (λ w. w.halts s text);
  whole_begins = λ text h. (h.0, h.1, (h.2.0, h.2.1, h.2.2, (h.2.3.0, h.2.3.1, of_reasons h.2.3.2)));
  halted_begins = λ s text h. (h.0, h.1, (h.2.0, h.2.1, h.2.2, (h.2.3.0, h.2.3.1, of_stop s h.2.3.2)));
}
