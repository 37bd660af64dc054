use Rattle.cif_inst_laws.proofs.FitLaws.{conditions-fit}
use Rattle.cif_inst_laws.proofs.fitting.conditions_keep_their_kind.Goals as goal

pub returns : goal.returns
returns c = λ t d all keeps small few m. conditions-fit t d keeps small few m all
