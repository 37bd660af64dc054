use Rattle.cif_inst_laws.proofs.FitLaws.{guards-fit}
use Rattle.cif_inst_laws.proofs.fitting.guards_keep_their_kind.Goals as goal

pub returns : goal.returns
returns c = λ t d at all keeps small few m. guards-fit t d keeps small few m at all
