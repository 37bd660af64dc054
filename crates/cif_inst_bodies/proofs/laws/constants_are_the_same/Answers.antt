use Rattle.cif_inst_bodies.proofs.Constants.{constant-same}
use Rattle.cif_inst_bodies.proofs.laws.constants_are_the_same.Goals as goal

pub returns : goal.returns
returns c = constant-same
