-- What a simulation keeps: a state of its net, the readers of all that the net's events name, and marks of events, of which one
-- that is off has no step.
use Rattle.std.specs.Prelude.{Bool, List}
use Rattle.cif_system.specs.System.{IsState, State}
use Rattle.cif_net.specs.declared.guarded.Guarded.{Guarded}
use Rattle.cif_eval.specs.Choices.{system_of}
use Rattle.cif_sim.specs.Readers.{AreReaders}
use Rattle.cif_sim.specs.Waking.{AreIdle}
use Rattle.cif_sim.specs.declared.readers.Readers.{Readers}

pub record IsWatched (g : Guarded) (s : State) (readers : Readers) (marks : List Bool) : Type 0 where
  pub valid : IsState (system_of g) s
  pub reads : AreReaders g readers
  pub idle : AreIdle g s marks
