use Rattle.cif_sim_names.proofs.NameLaws.{names-unfolded}
use Rattle.cif_sim_names.proofs.laws.unfolded_nets_keep_names.Goals as goal

pub returns : goal.returns
returns c = names-unfolded
