use Rattle.cif_inst_bodies.proofs.RuleLaws.{own-alike}
use Rattle.cif_inst_bodies.proofs.laws.own_names_seek_the_same.Goals as goal

pub returns : goal.returns
returns c = own-alike
