use Rattle.cif_net_laws.proofs.Keeping.{keep-invariants}
use Rattle.cif_net_laws.proofs.unfolding.unfolded_nets_keep_their_invariants.Goals as goal

pub returns : goal.returns
returns c = keep-invariants
