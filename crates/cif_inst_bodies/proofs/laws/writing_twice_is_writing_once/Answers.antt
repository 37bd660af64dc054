use Rattle.cif_inst_bodies.proofs.Alike.{twice}
use Rattle.cif_inst_bodies.proofs.laws.writing_twice_is_writing_once.Goals as goal

pub returns : goal.returns
returns c = twice
