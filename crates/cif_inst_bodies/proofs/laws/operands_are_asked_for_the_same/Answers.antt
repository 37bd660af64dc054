use Rattle.cif_inst_bodies.proofs.KindLaws.{operands-same}
use Rattle.cif_inst_bodies.proofs.laws.operands_are_asked_for_the_same.Goals as goal

pub returns : goal.returns
returns c = operands-same
