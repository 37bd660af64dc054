use Rattle.cif_inst_bodies.proofs.NumberLaws.{stands-at-number}
use Rattle.cif_inst_bodies.proofs.laws.declarations_stand_at_their_numbers.Goals as goal

pub returns : goal.returns
returns c = stands-at-number
