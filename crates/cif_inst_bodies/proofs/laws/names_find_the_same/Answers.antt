use Rattle.cif_inst_bodies.proofs.Alike.{names-alike}
use Rattle.cif_inst_bodies.proofs.laws.names_find_the_same.Goals as goal

pub returns : goal.returns
returns c = names-alike
