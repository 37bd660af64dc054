use Rattle.cif_inst_bodies.proofs.RuleLaws.{initial-one}
use Rattle.cif_inst_bodies.proofs.laws.automata_have_one_initial_location.Goals as goal

pub returns : goal.returns
returns c = initial-one
