use Rattle.cif_net_laws.proofs.Faced.{same-face}
use Rattle.cif_net_laws.proofs.unfolding.unfolded_nets_have_the_same_face.Goals as goal

pub returns : goal.returns
returns c = same-face
