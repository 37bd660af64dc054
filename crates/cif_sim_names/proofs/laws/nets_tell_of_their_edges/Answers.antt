use Rattle.cif_sim_names.proofs.ToldLaws.{nets-tell}
use Rattle.cif_sim_names.proofs.laws.nets_tell_of_their_edges.Goals as goal

pub returns : goal.returns
returns c = nets-tell
