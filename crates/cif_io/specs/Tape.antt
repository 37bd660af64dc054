-- A sink in memory.
use Rattle.std.specs.Prelude.{ℕ, List}

-- the bytes written, the most that one call takes, the numbers of the calls that fail, and the numbers of calls and
-- of failures so far
pub record Tape : Type 0 where
  pub bytes : List ℕ
  pub at_most : ℕ
  pub fails : List ℕ
  pub calls : ℕ
  pub faults : ℕ
