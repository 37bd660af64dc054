-- Pairs of a variable and a value, with the room for them.
use Rattle.std.specs.Prelude.{ℕ, ℤ, List}

pub record Held : Type 0 where
  pub pairs : List (ℕ × ℤ)
  pub room : ℕ
