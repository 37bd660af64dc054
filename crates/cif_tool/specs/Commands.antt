-- The commands: the name of each, what words ask it for, and what it does. A command that comes later adds a line to each
-- definition.
use Rattle.std.specs.Prelude.{List, Option, Some, None, codes, if◌then◌else◌}
use Rattle.grammar.specs.Pieces.{Text, same}
use Rattle.cif_run.specs.Works.{Content, Work}
use Rattle.cif_check.specs.Words.{Check, IsCheck}
use Rattle.cif_check.specs.Checks.{check_work}
use Rattle.cif_generate.specs.Words.{Generate, IsGenerate}
use Rattle.cif_generate.specs.Generates.{generate_work}
use Rattle.cif_replay.specs.Words.{Replay, IsReplay}
use Rattle.cif_replay.specs.Replays.{replay_work}
use Rattle.cif_batch_command.specs.Words.{Batch, IsBatch}
use Rattle.cif_batch_command.specs.Batches.{batch_work}
use Rattle.cif_simulate.specs.Words.{Simulate, Which, by_script, by_first, IsSimulate}
use Rattle.cif_simulate.specs.Simulates.{simulate_work}
use Rattle.cif_why_command.specs.Words.{Why, IsWhy}
use Rattle.cif_why_command.specs.Explains.{why_work}

pub data Command : Type 0 where
  check : Command
  generate : Command
  replay : Command
  batch : Command
  simulate : Command
  why : Command

abbrev pub name_of : Command → Text
name_of check = codes "check"
name_of generate = codes "generate"
name_of replay = codes "replay"
name_of batch = codes "batch"
name_of simulate = codes "simulate"
name_of why = codes "why"

-- the command of this name
abbrev pub command_of : Text → Option Command
command_of w =
    if same w (codes "check") then Some check
    else (if same w (codes "generate") then Some generate
    else (if same w (codes "replay") then Some replay
    else (if same w (codes "batch") then Some batch
    else (if same w (codes "simulate") then Some simulate
    else (if same w (codes "why") then Some why
    else None)))))

-- what words ask a command for
abbrev pub Request : Command → Type 0
Request check = Check
Request generate = Generate
Request replay = Replay
Request batch = Batch
Request simulate = Simulate
Request why = Why

abbrev pub IsFor : (k : Command) → List Text → Request k → Type 0
IsFor check words q = IsCheck words q
IsFor generate words q = IsGenerate words q
IsFor replay words q = IsReplay words q
IsFor batch words q = IsBatch words q
IsFor simulate words q = IsSimulate words q
IsFor why words q = IsWhy words q

abbrev pub work_of : (k : Command) → Request k → Content → Work
work_of check q content = check_work q content
work_of generate q content = generate_work q content
work_of replay q content = replay_work q content
work_of batch q content = batch_work q content
work_of simulate q content = simulate_work q content
work_of why q content = why_work q content

-- the file that should hold a source
abbrev pub source_of : (k : Command) → Request k → Option Text
source_of check q = Some q.file
source_of generate q = Some q.file
source_of replay q = None
source_of batch q = None
source_of simulate q = Some q.file
source_of why q = Some q.file

-- the file that should hold a script
abbrev pub script_in : Which → Option Text
script_in (by_script script) = Some script
script_in (by_first steps) = None

abbrev pub script_of : (k : Command) → Request k → Option Text
script_of check q = None
script_of generate q = None
script_of replay q = None
script_of batch q = None
script_of simulate q = script_in q.which
script_of why q = Some q.script
