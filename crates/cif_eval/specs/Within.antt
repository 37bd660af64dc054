-- What values are computed from in a state, where each algebraic variable is 0.
use Rattle.std.specs.Prelude.{ℤ, pos}
use Rattle.cif_system.specs.System.{State}
use Rattle.cif_net_model.specs.Safe.{Setting}

abbrev pub within : State → ℤ → Setting
within s r = record { algs = λ k. pos 0; state = s; received = r }
