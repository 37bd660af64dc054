use Rattle.cif_sim_names.proofs.NameLaws.{names-same}
use Rattle.cif_sim_names.proofs.laws.net_has_the_names.Goals as goal

pub returns : goal.returns
returns c = names-same
