use Rattle.cif_system.proofs.RunLaws.{first_run-run}
use Rattle.cif_system.proofs.laws.run_of_first_steps_is_a_run.Goals as goal

pub returns : goal.returns
returns c = first_run-run
