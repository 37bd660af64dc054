use Rattle.cif_system.proofs.ScanLaws.{first_step-step}
use Rattle.cif_system.proofs.laws.first_step_is_a_step.Goals as goal

pub returns : goal.returns
returns c = first_step-step
