use Rattle.cif_inst_laws.proofs.FitLaws.{all-fit}
use Rattle.cif_inst_laws.proofs.fitting.conditions_of_updates_keep_their_kind.Goals as goal

pub returns : goal.returns
returns c = λ t d r o all keeps small few m is. all-fit t d keeps small few m r o is all
