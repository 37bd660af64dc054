use Rattle.cif_inst_bodies.proofs.Constants.{first-same}
use Rattle.cif_inst_bodies.proofs.laws.first_values_are_the_same.Goals as goal

pub returns : goal.returns
returns c = first-same
