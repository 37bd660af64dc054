use Rattle.cif_inst_bodies.proofs.Bodies.{components-written}
use Rattle.cif_inst_bodies.proofs.laws.components_are_written.Goals as goal

pub returns : goal.returns
returns c = components-written
