use Rattle.cif_maker_laws.proofs.MadeProfile.{in_profile}
use Rattle.cif_maker_laws.proofs.laws.made_sources_are_in_profile.Goals as goal

pub returns : goal.returns
returns c = in_profile
