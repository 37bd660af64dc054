use Rattle.cif_inst_bodies.proofs.OwnLaws.{assigned-once}
use Rattle.cif_inst_bodies.proofs.laws.variables_are_assigned_once.Goals as goal

pub returns : goal.returns
returns c = assigned-once
