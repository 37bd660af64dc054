use Rattle.cif_inst_bodies.proofs.DemandLaws.{demands-same}
use Rattle.cif_inst_bodies.proofs.laws.positions_ask_for_the_same.Goals as goal

pub returns : goal.returns
returns c = demands-same
