-- What a simulation is, as a value: its guarded net and a state of that.
use Rattle.cif_system.specs.System.{State}
use Rattle.cif_net.specs.declared.guarded.Guarded.{Guarded}

pub record Simulated : Type 0 where
  pub guarded : Guarded
  pub state : State
