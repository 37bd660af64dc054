-- What a state invariant is in a net in which algebraic variables are replaced: it has the same place, reads an input where
-- the one of the net does, and holds in the initial state where that does.
use Rattle.std.specs.Prelude.{◌≡◌}
use Rattle.cif_net_model.specs.Net.{NetInvariant, Net}
use Rattle.cif_net_model.specs.Reads.{reads_input}
use Rattle.cif_net_model.specs.Rules.{holds_first}

pub record IsInvariantOf (n p : Net) (i j : NetInvariant) : Type 0 where
  pub at : j.at ≡ i.at
  pub reads : reads_input p j.pred ≡ reads_input n i.pred
  pub holds : holds_first p j.pred ≡ holds_first n i.pred
