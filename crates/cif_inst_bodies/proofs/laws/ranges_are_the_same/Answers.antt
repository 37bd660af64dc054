use Rattle.cif_inst_bodies.proofs.Constants.{range-same}
use Rattle.cif_inst_bodies.proofs.laws.ranges_are_the_same.Goals as goal

pub returns : goal.returns
returns c = range-same
