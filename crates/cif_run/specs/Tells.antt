-- What the standard error has after a call.
use Rattle.std.specs.Prelude.{◌≡◌, List, Option}
use Rattle.grammar.specs.Pieces.{Text}
use Rattle.cif_io.specs.Written.{grown}
use Rattle.cif_run.specs.Lines.{line_at}
use Rattle.cif_run.specs.Works.{Work, Reading, Writing, Comes, GrewByPart}
use Rattle.cif_run.specs.declared.status.Status.{Status}
use Rattle.cif_run.specs.declared.status.Status.TheVariants as status
use Rattle.cif_run.specs.declared.ended.Ended.{Ended}

-- A command ended so, and the answer is this: the beginning of the line of that end is told. An answer other than want of
-- memory is the end's status, and then the line is told whole, unless the count of faults rose.
pub record Tells (words : List Text) (e : Ended) (old new : Option Text) (rose : Type 0) (answer : Status) : Type 0 where
  pub begins : GrewByPart (line_at words e) old new
  pub is : (answer ≡ status.Memory → ⊥) → answer ≡ e.status
  pub whole : (answer ≡ status.Memory → ⊥) → (rose → ⊥) → new ≡ grown old (line_at words e)

-- the same of an end to which the call came
abbrev pub Told : List Text → Work → Reading → Writing → Option Text → Option Text → Type 0 → Status → Type 0
Told words w c o old new rose answer = (e : Ended) × Comes w c o e × Tells words e old new rose answer
