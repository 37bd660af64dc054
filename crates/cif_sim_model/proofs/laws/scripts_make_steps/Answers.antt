use Rattle.cif_sim_model.proofs.RunLaws.{scripts-make}
use Rattle.cif_sim_model.proofs.laws.scripts_make_steps.Goals as goal

pub returns : goal.returns
returns c = scripts-make
