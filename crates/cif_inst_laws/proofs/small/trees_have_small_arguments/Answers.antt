use Rattle.cif_inst_laws.proofs.SmallLaws.{small-arguments}
use Rattle.cif_inst_laws.proofs.small.trees_have_small_arguments.Goals as goal

pub returns : goal.returns
returns c = small-arguments
