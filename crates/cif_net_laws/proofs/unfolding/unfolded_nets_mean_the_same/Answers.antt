use Rattle.cif_net_laws.proofs.Means.{means-same}
use Rattle.cif_net_laws.proofs.unfolding.unfolded_nets_mean_the_same.Goals as goal

pub returns : goal.returns
returns c = means-same
