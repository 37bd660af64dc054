use Rattle.cif_inst_bodies.proofs.DemandLaws.{demands-met}
use Rattle.cif_inst_bodies.proofs.laws.expressions_have_their_kinds.Goals as goal

pub returns : goal.returns
returns c = demands-met
