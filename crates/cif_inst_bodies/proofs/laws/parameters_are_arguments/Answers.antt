use Rattle.cif_inst_bodies.proofs.ArgumentLaws.{parameter-argument}
use Rattle.cif_inst_bodies.proofs.laws.parameters_are_arguments.Goals as goal

pub returns : goal.returns
returns c = parameter-argument
