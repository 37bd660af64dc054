use Rattle.cif_inst_bodies.proofs.RuleLaws.{parts-same}
use Rattle.cif_inst_bodies.proofs.laws.bodies_are_the_same.Goals as goal

pub returns : goal.returns
returns c = parts-same
