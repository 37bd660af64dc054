use Rattle.cif_system.proofs.RunLaws.{scan-state}
use Rattle.cif_system.proofs.laws.scans_keep_states.Goals as goal

pub returns : goal.returns
returns c = scan-state
