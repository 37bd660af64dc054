-- What values are computed from.
use Rattle.std.specs.Prelude.{ℤ, pos}
use Rattle.cif_net.specs.declared.state.State.{State}
use Rattle.cif_net.specs.View.{state_tree}
use Rattle.cif_net_model.specs.Safe.{Setting}

-- a state and what is received; each algebraic variable is 0
abbrev pub told : State → ℤ → Setting
told s r = record { algs = λ k. pos 0; state = state_tree s; received = r }
