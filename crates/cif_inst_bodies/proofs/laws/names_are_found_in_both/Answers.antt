use Rattle.cif_inst_bodies.proofs.Alike.{found-both}
use Rattle.cif_inst_bodies.proofs.laws.names_are_found_in_both.Goals as goal

pub returns : goal.returns
returns c = found-both
