-- How runs end, and what was written by then.
use Rattle.std.specs.Prelude.{◌≡◌, ℕ, ◌≤◌, length, take, Option}
use Rattle.grammar.specs.Pieces.{Text}
use Rattle.cif_io.specs.Faults.{Rose}
use Rattle.cif_io.specs.Written.{grown}
use Rattle.cif_io.specs.declared.sink.SinkErr.{SinkErr}
use Rattle.cif_io.specs.declared.sink.SinkErr.TheVariants as sink
use Rattle.cif_sim_model.specs.Simulation.{StopCause, out_of_range, not_enabled, bad_line}
use Rattle.cif_sim_run.specs.declared.halt.Halt.{Halt}
use Rattle.cif_sim_run.specs.declared.halt.Halt.TheVariants.{Stopped, Failed, Memory}
use Rattle.cif_sim_run.specs.declared.halt.StopWhy.{StopWhy}
use Rattle.cif_sim_run.specs.declared.halt.StopWhy.TheVariants.{OutOfRange, NotEnabled, BadLine}

abbrev pub cause : StopWhy → StopCause
cause (OutOfRange value) = out_of_range value
cause NotEnabled = not_enabled
cause BadLine = bad_line

abbrev pub halt_of : SinkErr → Halt
halt_of sink.Failed = Failed
halt_of sink.Memory = Memory

-- a beginning of the text was written
abbrev pub GrewByPart : Text → (old new : Option Text) → Type 0
GrewByPart text old new = (n : ℕ) × (n ≤ length text) × (new ≡ grown old (take n text))

-- what was told of a sink before and after a run, and its counts of faults
pub record Writing : Type 0 where
  pub old : Option Text
  pub new : Option Text
  pub faults : ℕ
  pub faults_after : ℕ

abbrev pub writing : (old new : Option Text) → (faults faults_after : ℕ) → Writing
writing old new faults faults_after = record { old = old; new = new; faults = faults; faults_after = faults_after }

-- How a run ends that doesn't come to its end: at the line where it stops, with the text up to there, or with a part of the text,
-- where a write failed or memory was wanted.
abbrev pub HaltsIn : (stops : ℕ → StopCause → Type 0) → Text → Writing → Halt → Type 0
HaltsIn stops text w (Stopped line why) = stops line (cause why) × (w.new ≡ grown w.old text)
HaltsIn stops text w Failed = Rose w.faults w.faults_after × GrewByPart text w.old w.new
HaltsIn stops text w Memory = GrewByPart text w.old w.new

-- where nothing is written: only a line stops it, or want of memory
abbrev pub HaltsSilently : (stops : ℕ → StopCause → Type 0) → Halt → Type 0
HaltsSilently stops (Stopped line why) = stops line (cause why)
HaltsSilently stops Failed = ⊥
HaltsSilently stops Memory = Unit {0}
