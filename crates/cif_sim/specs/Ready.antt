-- What the tables and the working memory of a guarded net are.
use Rattle.std.specs.Prelude.{◌≡◌, ℕ, List, length}
use Rattle.cif_net.specs.declared.guarded.Guarded.{Guarded}
use Rattle.cif_eval.specs.Choices.{system_of}
use Rattle.cif_eval.specs.Working.{IsScratchOf}
use Rattle.cif_eval.specs.declared.scratch.Scratch.{Scratch}
use Rattle.cif_sim.specs.Starts.{AreStarts}

pub record IsReady (g : Guarded) (events : ℕ) (starts : List ℕ) (scratch : Scratch) : Type 0 where
  pub counted : events ≡ length g.plain.net.events
  pub begun : AreStarts (system_of g) starts
  pub works : IsScratchOf g scratch
