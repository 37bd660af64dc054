use Rattle.cif_inst_bodies.proofs.Bodies.{names-stay-written}
use Rattle.cif_inst_bodies.proofs.laws.names_stay_in_bodies.Goals as goal

pub returns : goal.returns
returns c = names-stay-written
