use Rattle.cif_sim_model.proofs.StopLaws.{stops-once}
use Rattle.cif_sim_model.proofs.laws.scripts_stop_once.Goals as goal

pub returns : goal.returns
returns c = stops-once
