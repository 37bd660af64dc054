use Rattle.cif_net_model.proofs.Plain.{net-safe}
use Rattle.cif_net_model.proofs.safety.plain_expressions_of_nets_are_safe.Goals as goal

pub returns : goal.returns
returns c = net-safe
