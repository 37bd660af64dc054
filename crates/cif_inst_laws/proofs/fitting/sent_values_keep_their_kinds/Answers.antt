use Rattle.cif_inst_laws.proofs.FitLaws.{sent-fit}
use Rattle.cif_inst_laws.proofs.fitting.sent_values_keep_their_kinds.Goals as goal

pub returns : goal.returns
returns c = λ t d ty k e keeps small few m. sent-fit t d keeps small few m ty k e
