-- What is known of the files of the system.
use Rattle.std.specs.Prelude.{ℕ}

-- the number of failures, and the most bytes that one read took
pub record Taken : Type 0 where
  pub faults : ℕ
  pub most : ℕ
