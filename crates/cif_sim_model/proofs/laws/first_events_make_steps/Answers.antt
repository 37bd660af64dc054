use Rattle.cif_sim_model.proofs.RunLaws.{first-runs}
use Rattle.cif_sim_model.proofs.laws.first_events_make_steps.Goals as goal

pub returns : goal.returns
returns c = first-runs
