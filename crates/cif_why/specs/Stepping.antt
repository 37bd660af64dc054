-- Choices of all events that make a step of one event.
use Rattle.std.specs.Prelude.{ℕ, Bool, ◌&&◌, nat_eq}
use Rattle.cif_system.specs.System.{State, System}
use Rattle.cif_system.specs.Step.{Choice, makes_step}

-- the choice is one for e, and makes a step
abbrev pub makes : System → State → ℕ → ℕ × Choice → Bool
makes m s e c = nat_eq c.0 e && makes_step m s c.0 c.1
