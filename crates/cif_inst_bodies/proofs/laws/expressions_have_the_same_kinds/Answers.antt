use Rattle.cif_inst_bodies.proofs.KindLaws.{kind-same}
use Rattle.cif_inst_bodies.proofs.laws.expressions_have_the_same_kinds.Goals as goal

pub returns : goal.returns
returns c = kind-same
