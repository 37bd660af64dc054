use Rattle.cif_net_model.proofs.PlainLaws.{fits}
use Rattle.cif_net_model.proofs.laws.value_fits.Goals as goal

pub returns : goal.returns
returns c = fits
