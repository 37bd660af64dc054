use Rattle.cif_inst_laws.proofs.Represented.{represented}
use Rattle.cif_inst_laws.proofs.nets.nets_represent_their_sources.Goals as goal

pub returns : goal.returns
returns c = represented
