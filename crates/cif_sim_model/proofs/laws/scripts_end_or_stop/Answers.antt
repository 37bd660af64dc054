use Rattle.cif_sim_model.proofs.RunLaws.{ends-or-stops}
use Rattle.cif_sim_model.proofs.laws.scripts_end_or_stop.Goals as goal

pub returns : goal.returns
returns c = ends-or-stops
