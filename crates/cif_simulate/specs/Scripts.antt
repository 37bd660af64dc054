-- A source and a script in files, and how a run of the script ends.
use Rattle.std.specs.Prelude.{◌≡◌, ℕ, ◌≤◌, ◌⊎◌, length}
use Rattle.grammar.specs.Pieces.{Text}
use Rattle.cif_system.specs.System.{System}
use Rattle.cif_sim_model.specs.Names.{Names}
use Rattle.cif_sim_model.specs.Simulation.{StopCause, out_of_range, not_enabled, bad_line, StopsAt}
use Rattle.cif_source.specs.Source.{Source}
use Rattle.cif_sim_run.specs.declared.halt.Halt.{Halt}
use Rattle.cif_sim_run.specs.declared.halt.Halt.TheVariants as halt
use Rattle.cif_sim_run.specs.declared.halt.StopWhy as run
use Rattle.cif_sim_run.specs.declared.halt.StopWhy.TheVariants as line
use Rattle.cif_run.specs.declared.status.Status.{Status}
use Rattle.cif_run.specs.declared.status.Status.TheVariants as status
use Rattle.cif_run.specs.declared.status.StopWhy.{StopWhy}
use Rattle.cif_run.specs.declared.status.StopWhy.TheVariants as stop
use Rattle.cif_run.specs.declared.ended.Ended.{Ended}
use Rattle.cif_run.specs.Groups.{group_of}
use Rattle.cif_run.specs.Works.{Comes, Content, FileEnds, Holds, Input, Reading, Work, Writing}
use Rattle.cif_accept.specs.Accepts.{OfSource}

-- the most bytes of a script
abbrev pub script_limit : ℕ
script_limit = 4194304

abbrev pub script_input : Text → Input
script_input script = record { word = 2; name = script; limit = script_limit }

-- the first file holds a source and the second a script that is short enough, and this is so of both
abbrev pub OfScript : Content → (file script : Text) → (Source → Text → Type 0) → Type 0
OfScript content file script P = OfSource content file
    (λ t. (bytes : Text) × Holds (content script) bytes × (length bytes ≤ script_limit) × P t bytes)

-- why a script stops, as a status has it
abbrev pub cause : StopWhy → StopCause
cause (stop.OutOfRange value) = out_of_range value
cause stop.NotEnabled = not_enabled
cause stop.BadLine = bad_line

-- the script stops where the status says
abbrev pub IsStop : Names → System → (script : Text) → Status → Type 0
IsStop names m script (status.Stopped k why) = StopsAt names m script k (cause why)
IsStop names m script _ = ⊥

-- ---- helpers of the code

-- the status of a run that halts
abbrev pub why_of : run.StopWhy → StopWhy
why_of (line.OutOfRange value) = stop.OutOfRange value
why_of line.NotEnabled = stop.NotEnabled
why_of line.BadLine = stop.BadLine

abbrev pub status_of : Halt → Status
status_of (halt.Stopped k why) = status.Stopped k (why_of why)
status_of halt.Failed = status.WriteFault
status_of halt.Memory = status.Memory

-- the script in a file was not read, or a call over its bytes, which reads no file, came to its end
abbrev pub CameOver : (Text → Work) → (script : Text) → Reading → Writing → Ended → Type 0
CameOver v script c o e = (FileEnds c (script_input script) e.limit (group_of e.status) × (o.new ≡ o.old))
    ⊎ ((bytes : Text) × Holds (c.content script) bytes × (length bytes ≤ script_limit) × ((d : Reading) → Comes (v bytes) d o e))
