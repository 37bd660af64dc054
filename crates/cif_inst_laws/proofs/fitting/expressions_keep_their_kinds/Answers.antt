use Rattle.cif_inst_laws.proofs.FitLaws.{expressions-fit}
use Rattle.cif_inst_laws.proofs.fitting.expressions_keep_their_kinds.Goals as goal

pub returns : goal.returns
returns c = λ t d k e keeps small few m. expressions-fit t d keeps small few m k e
