use Rattle.cif_inst_bodies.proofs.DenotedLaws.{value-names}
use Rattle.cif_inst_bodies.proofs.laws.value_names_denote_values.Goals as goal

pub returns : goal.returns
returns c = value-names
