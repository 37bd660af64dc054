use Rattle.cif_net_model.proofs.First.{first-state}
use Rattle.cif_net_model.proofs.safety.initial_states_are_states.Goals as goal

pub returns : goal.returns
returns c = first-state
