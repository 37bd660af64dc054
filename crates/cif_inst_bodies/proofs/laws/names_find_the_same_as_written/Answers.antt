use Rattle.cif_inst_bodies.proofs.Alike.{found_written-same}
use Rattle.cif_inst_bodies.proofs.laws.names_find_the_same_as_written.Goals as goal

pub returns : goal.returns
returns c = found_written-same
