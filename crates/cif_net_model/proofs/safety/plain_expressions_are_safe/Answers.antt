use Rattle.cif_net_model.proofs.Plain.{plain-safe}
use Rattle.cif_net_model.proofs.safety.plain_expressions_are_safe.Goals as goal

pub returns : goal.returns
returns c = plain-safe
