use Rattle.cif_inst_bodies.proofs.Alike.{definitions-alike}
use Rattle.cif_inst_bodies.proofs.laws.definitions_are_found_the_same.Goals as goal

pub returns : goal.returns
returns c = definitions-alike
