use Rattle.cif_inst_bodies.proofs.DenotedLaws.{variable-names}
use Rattle.cif_inst_bodies.proofs.laws.variable_names_denote_variables.Goals as goal

pub returns : goal.returns
returns c = variable-names
