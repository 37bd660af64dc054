use Rattle.cif_inst_bodies.proofs.Constants.{net_type-same}
use Rattle.cif_inst_bodies.proofs.laws.net_types_are_the_same.Goals as goal

pub returns : goal.returns
returns c = net_type-same
