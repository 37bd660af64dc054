use Rattle.cif_inst_bodies.proofs.Constants.{constants-kept}
use Rattle.cif_inst_bodies.proofs.laws.constant_expressions_are_constant.Goals as goal

pub returns : goal.returns
returns c = constants-kept
