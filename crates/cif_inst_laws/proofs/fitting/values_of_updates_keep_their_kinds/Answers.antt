use Rattle.cif_inst_laws.proofs.FitLaws.{demanded-fit}
use Rattle.cif_inst_laws.proofs.fitting.values_of_updates_keep_their_kinds.Goals as goal

pub returns : goal.returns
returns c = λ t d r o k e keeps small few m is. demanded-fit t d keeps small few m r o is k e
