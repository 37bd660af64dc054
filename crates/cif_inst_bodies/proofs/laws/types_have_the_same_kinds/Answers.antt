use Rattle.cif_inst_bodies.proofs.KindLaws.{type-same}
use Rattle.cif_inst_bodies.proofs.laws.types_have_the_same_kinds.Goals as goal

pub returns : goal.returns
returns c = type-same
