use Rattle.cif_inst_bodies.proofs.RuleLaws.{own-same}
use Rattle.cif_inst_bodies.proofs.laws.own_names_are_the_same.Goals as goal

pub returns : goal.returns
returns c = own-same
