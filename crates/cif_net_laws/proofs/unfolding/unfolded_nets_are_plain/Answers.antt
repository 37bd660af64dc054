use Rattle.cif_net_laws.proofs.Plain.{plain}
use Rattle.cif_net_laws.proofs.unfolding.unfolded_nets_are_plain.Goals as goal

pub returns : goal.returns
returns c = plain
