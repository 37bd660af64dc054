use Rattle.cif_inst_bodies.proofs.UseLaws.{uses-same}
use Rattle.cif_inst_bodies.proofs.laws.uses_are_the_same.Goals as goal

pub returns : goal.returns
returns c = uses-same
