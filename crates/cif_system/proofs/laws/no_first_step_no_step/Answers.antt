use Rattle.cif_system.proofs.ScanLaws.{first_step-none}
use Rattle.cif_system.proofs.laws.no_first_step_no_step.Goals as goal

pub returns : goal.returns
returns c = first_step-none
