use Rattle.cif_sim_names.proofs.ToldLaws.{numbered-at}
use Rattle.cif_sim_names.proofs.laws.net_values_are_numbered.Goals as goal

pub returns : goal.returns
returns c = numbered-at
