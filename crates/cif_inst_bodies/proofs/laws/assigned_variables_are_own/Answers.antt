use Rattle.cif_inst_bodies.proofs.OwnLaws.{assigned-own}
use Rattle.cif_inst_bodies.proofs.laws.assigned_variables_are_own.Goals as goal

pub returns : goal.returns
returns c = assigned-own
