use Rattle.cif_inst_bodies.proofs.UseLaws.{sought-alike}
use Rattle.cif_inst_bodies.proofs.laws.uses_seek_the_same.Goals as goal

pub returns : goal.returns
returns c = sought-alike
