use Rattle.cif_net_laws.proofs.Plain.{is-net}
use Rattle.cif_net_laws.proofs.unfolding.unfolded_nets_are_nets.Goals as goal

pub returns : goal.returns
returns c = is-net
