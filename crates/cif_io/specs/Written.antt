-- The bytes that a sink has taken, where they are told.
use Rattle.std.specs.Prelude.{ℕ, List, ◌++◌, Option}
use Rattle.std.specs.Option.{option_map}

-- what is told after this piece
abbrev pub grown : Option (List ℕ) → List ℕ → Option (List ℕ)
grown told piece = option_map (λ w. w ++ piece) told
